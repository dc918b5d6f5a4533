-- The sum of a score's draws, note by note, and whether it passes what is left. Assumes nothing.
use Prim.Native.Nat.{ℕ, zero, suc, ◌+◌, ◌-◌, ◌≤◌, ◌<◌}
use mathlib.Core.Path.{◌≡◌, refl, sym, ap, ◌∙◌}
use native.Mathlib.Omega.{arith}
use native.Mathlib.Numerals.{add-one}
use borrow.Author.Tests.{lt-ltb, le-ltb}
use Rattle.laws.proofs.If.{if_true, if_false}
use Rattle.score.specs.Score.{Score, note_in, note_count, note_draws, draws_before, score_draws}
use Rattle.score.proofs.Notes.{draws_all}
use Rattle.score_draws.specs.Sum.{sum_of}
use Rattle.std.specs.Prelude.{None, Some}

-- What holds before note k.
pub record Added (s : Score) (left k total : ℕ) : Type 0 where
  pub is : total ≡ draws_before s k
  pub fits : total ≤ left
  pub within : k ≤ note_count s

-- more notes draw no less
pub draws_more : (s : Score) (k m : ℕ) → draws_before s k ≤ draws_before s (k + m)
unfolding draws_before
draws_more s k zero = let z : k + 0 ≡ k = omega arith in rw z (omega arith)
draws_more s k (suc m) = let z : k + suc m ≡ suc (k + m) = omega arith in rw z (omega (arith, draws_more s k m))

pub draws_one : (s : Score) (k : ℕ) → draws_before s k + note_draws s (note_in s k) ≡ draws_before s (k + 1)
unfolding draws_before
draws_one s k = rw add-one refl

module _ {s : Score} {left : ℕ} where
  pub added_none : Added s left 0 0
  unfolding draws_before
  added_none = record { is = refl; fits = omega arith; within = omega arith }

  module _ {k total e : ℕ} (h : Added s left k total) (lt : k < note_count s) (is : e ≡ note_draws s (note_in s k)) where
    -- the note's draws pass what is left of it
    pub added_over : left - total < e → None ≡ sum_of left (score_draws s)
    added_over over =
        let z : k + 1 + (note_count s - (k + 1)) ≡ note_count s = omega arith in
        let most : draws_before s (k + 1) ≤ draws_before s (note_count s) = rw z at (draws_more s (k + 1) (note_count s - (k + 1))) in
        let past : left < draws_before s (note_count s) = omega (arith, draws_one s k, h.is, h.fits) in
        if_true _ (lt-ltb _ _ (rw (← draws_all s) at past)) refl

    pub added_more : e ≤ left - total → Added s left (k + 1) (total + e)
    added_more under = record { is = omega (arith, draws_one s k, h.is); fits = omega (arith, h.fits); within = omega arith }

  pub added_all : {k total : ℕ} → Added s left k total → note_count s ≤ k → Some total ≡ sum_of left (score_draws s)
  added_all {k} {total} h end =
      let z : k ≡ note_count s = omega (arith, h.within) in
      let all : total ≡ score_draws s = h.is ∙ ap (draws_before s) z ∙ sym (draws_all s) in
      let under : score_draws s ≤ left = omega (arith, h.fits) in
      if_false _ (le-ltb _ _ under) (ap Some all)
