-- One note of a score, sounded or skipped. Use where code looks at a note's place. Assumes nothing.
use Prim.Native.Nat.{ℕ, zero, suc, ◌+◌, ◌≤◌, ◌<◌}
use mathlib.Core.Path.{◌≡◌, refl, ap, ◌∙◌}
use mathlib.Core.List.{List, [], ◌∷◌, ◌++◌, map}
use mathlib.Core.Bool.{true, false}
use native.Mathlib.Omega.{arith}
use borrow.Author.Tests.{le-leb, leb-true, leb-false}
use Rattle.laws.specs.Listed.{listed_from, listed}
use Rattle.laws.proofs.If.{if_true, if_false}
use Rattle.laws.proofs.Listed.{listed_more}
use Rattle.dsl.specs.Domain.{Frames}
use Rattle.dsl.specs.declared.note.SeqNote.{SeqNote}
use Rattle.dsl.specs.declared.note.Decoded.{Decoded}
use Rattle.dsl.specs.declared.note.Decoded.TheVariants.{Note}
use Rattle.draws.specs.Draws.{draws_of}
use Rattle.groove.proofs.Room.{sounded_some, sounded_none, sounded_within}
use Rattle.score.proofs.Standing.{sounded_is, len_least, len_under}
use Rattle.score.specs.Score.{Score, rate_in, wave_in, kit_in, note_in, note_count, place, skips, pitch, draws_in, note_draws, sum, score_draws, draws_before}

module _ (s : Score) (m : SeqNote) where
  pub len_most : Frames s.n → Frames (place s m).len
  len_most h = record { most = omega (arith, len_under s.seq.timing s.n m h, h.most) }

  -- a skipped note: no frame of it sounds, and it changes nothing
  pub none_sounded : skips s m ≡ true → (place s m).sounded ≡ 0
  none_sounded past = sounded_is s.seq.timing s.n m ∙ sounded_none s.n _ _ (leb-true s.n _ past)

  module _ (late : s.n ≤ (place s m).start) where
    pub skipped_draws : 0 ≡ note_draws s (Note m)
    unfolding note_draws draws_in
    skipped_draws = if_true _ (le-leb _ _ late) refl

  -- a sounded note: a length is at least 1, so that some frame of it sounds, and those that do are the score's
  module _ (heard : skips s m ≡ false) where
    pub some_sounded : 0 < (place s m).sounded
    some_sounded = rw (sounded_is s.seq.timing s.n m) (sounded_some s.n _ _ (leb-false s.n _ heard) (len_least s.seq.timing s.n m))

    pub all_within : (place s m).start + (place s m).sounded ≤ s.n
    all_within = rw (sounded_is s.seq.timing s.n m) (sounded_within s.n _ _ (leb-false s.n _ heard))

    pub sounded_draws : draws_of (wave_in s) (kit_in s) (rate_in s) (pitch s m 0) (place s m).sounded ≡ note_draws s (Note m)
    unfolding note_draws draws_in
    sounded_draws = if_false _ heard refl

-- ---- all notes
sum_end : (f : Decoded → ℕ) (xs : List Decoded) (x : Decoded) → sum (map f (xs ++ (x ∷ []))) ≡ sum (map f xs) + f x
unfolding sum
sum_end f [] x = omega arith
sum_end f (y ∷ ys) x = omega (arith, sum_end f ys x)

-- the draws of the first k notes are a sum over the list of them
draws_listed : (s : Score) (k : ℕ) → sum (map (note_draws s) (listed (note_in s) k)) ≡ draws_before s k
unfolding sum draws_before listed_from
draws_listed s zero = refl
draws_listed s (suc k) =
    ap (λ (l : List Decoded). sum (map (note_draws s) l)) (listed_more (note_in s) k) ∙ sum_end (note_draws s) (listed (note_in s) k) (note_in s k)
    ∙ ap (λ (d : ℕ). d + note_draws s (note_in s k)) (draws_listed s k)

pub draws_all : (s : Score) → score_draws s ≡ draws_before s (note_count s)
unfolding score_draws
draws_all s = draws_listed s (note_count s)
