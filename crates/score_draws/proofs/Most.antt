-- How many draws an accepted score can have: at most 2^24 a note. Assumes nothing.
use Prim.Native.Nat.{ℕ, zero, suc, ◌*◌, ◌/◌, ◌≤◌}
use mathlib.Core.Path.{◌≡◌}
use mathlib.Core.Bool.{Bool, true, false, cond}
use native.Mathlib.Nat.{le_trans, le_of_eq, mul-le-mul_right, div-mul-le_self}
use native.Mathlib.Omega.{arith}
use Rattle.dsl.specs.declared.note.SeqNote.{SeqNote}
use Rattle.dsl.specs.declared.note.Decoded.{Decoded}
use Rattle.dsl.proofs.Cases.{by_kind}
use Rattle.draws.proofs.Few.{draws_most}
use Rattle.std.specs.Prelude.{Ok}
use Rattle.score.specs.Refusals.{refusal}
use Rattle.score.specs.Score.{Score, rate_in, wave_in, kit_in, note_in, note_count, place, skips, pitch, draws_in, note_draws, draws_before, score_draws}
use Rattle.score.proofs.Accepted.{Fit, accepted_score}
use Rattle.score.proofs.Standing.{len_under, sounded_most}
use Rattle.score.proofs.Notes.{draws_all}

-- the most frames of a call, and so the most draws of a note
abbrev most : ℕ
most = 16777216

cond_most : (b : Bool) (x m : ℕ) → x ≤ m → cond b 0 x ≤ m
cond_most true x m h = omega arith
cond_most false x m h = h

module _ (s : Score) (fit : Fit s) where
  drawn_most : (m : SeqNote) → draws_in s m ≤ most
  unfolding draws_in
  drawn_most m =
      let few = draws_most (wave_in s) (kit_in s) (rate_in s) fit.rate (pitch s m 0) (place s m).sounded in
      let within = sounded_most s.seq.timing s.n m in
      let under = len_under s.seq.timing s.n m fit.frames in
      cond_most (skips s m) _ most (omega (arith, few, within, under, fit.frames.most))

  note_most : (e : Decoded) → note_draws s e ≤ most
  unfolding note_draws
  note_most = by_kind (λ e. note_draws s e ≤ most) drawn_most (λ e none. le_trans (le_of_eq (none.other 0 (draws_in s))) (omega arith))

  before_most : (k : ℕ) → draws_before s k ≤ k * most
  unfolding draws_before
  before_most zero = omega arith
  before_most (suc k) = omega (arith, before_most k, note_most (note_in s k))

-- as many notes as that allows draw no more than what is left
pub few_fit : (s : Score) (left : ℕ) → refusal s ≡ Ok tt → note_count s ≤ left / 16777216 → score_draws s ≤ left
few_fit s left ok few =
    let all : draws_before s (note_count s) ≤ note_count s * most = before_most s (accepted_score s ok).fit (note_count s) in
    let times : note_count s * most ≤ left / most * most = mul-le-mul_right most few in
    le_trans (le_of_eq (draws_all s)) (le_trans all (le_trans times (div-mul-le_self left most)))
