-- 01's tally of a list of score calls. "It is fed each score call's numbers, voice, note words and lane, as values, and the lengths of its lent buffers; nothing comes from
-- the program's record": a call is a `Score`.
use Rattle.std.specs.Prelude.{ℕ, zero, suc, ◌+◌, List, [], ◌∷◌, cond, Float}
use Rattle.rng.specs.SplitMix64.{state_after}
use Rattle.dsl.specs.Note.{of_note}
use Rattle.dsl.specs.declared.note.SeqNote.{SeqNote}
use Rattle.dsl.specs.declared.note.Decoded.{Decoded}
use Rattle.mix.specs.Mix.{silence}
use Rattle.outcome.specs.Answer.{Result, refused, accepted, unless, reported, frames_in}
use Rattle.score.specs.Score.{Score, note_in, note_count, skips, score_draws}
use Rattle.score.specs.Refusals.{refusal_at}
use Rattle.score_contract.specs.Frames.{mix_note}
use Rattle.tally.specs.Alone.{alone_of}

-- while the notes of an accepted call are taken: the draw x, and the frames so far
pub record Taken : Type 0 where
  pub x : ℕ
  pub frames : List Float

module _ (seed : ℕ) (s : Score) where
  -- "A skipped note leaves x. A sounded note with e draws starts from state s + x × G and leaves s + (x + e) × G, both modulo 2^64; then x becomes x + e. Its samples are those
  -- of a note call from the first of these states .. Each frame .. gains each sample there as in module 7"
  abbrev pub taken_note : Taken → SeqNote → Taken
  taken_note t m =
      let alone = alone_of s m (state_after seed t.x) in
      cond (skips s m) t (record { x = t.x + reported alone; frames = mix_note s m (frames_in alone) t.frames })

  unfoldable pub taken : Decoded → Taken → Taken
  taken e t = of_note t (taken_note t) e

  -- "Its notes are taken in list order, with a draw x that starts at d .. Each frame starts as plus zero": after the first k notes
  unfoldable pub taken_after : ℕ → ℕ → Taken
  taken_after d zero = record { x = d; frames = silence s.n }
  taken_after d (suc k) = taken (note_in s k) (taken_after d k)

  abbrev pub all_taken : ℕ → Taken
  all_taken d = taken_after d (note_count s)

-- "Refused: the first refusal that applies gives the number .. Accepted: it reports D."
unfoldable pub tallied : ℕ → ℕ → Score → Result
tallied seed d s = unless (refusal_at s d) (accepted (score_draws s) (all_taken seed s d).frames)

-- refused: "d stays"; accepted: "The last x .. becomes the new d."
abbrev pub new_draw : Result → ℕ → ℕ → ℕ
new_draw (refused number) d x = d
new_draw (accepted draws frames) d x = x

-- the calls' results, and d at the end
pub record Tally : Type 0 where
  pub results : List Result
  pub end : ℕ

-- "The tally holds s and a count d, at first c."
unfoldable pub tally : ℕ → ℕ → List Score → Tally
tally seed d [] = record { results = []; end = d }
tally seed d (s ∷ ss) =
    let r = tallied seed d s in
    let rest = tally seed (new_draw r d (all_taken seed s d).x) ss in
    record { results = r ∷ rest.results; end = rest.end }

-- what results report, in all
unfoldable pub total : List Result → ℕ
total [] = 0
total (r ∷ rs) = reported r + total rs

-- T: what the calls draw, in all, from draw c on
abbrev pub drawn_by : ℕ → ℕ → List Score → ℕ
drawn_by seed c ss = total (tally seed c ss).results
