-- Use in a call that tests 22 last: what a sum tells that may not pass what is left, and which of its verdicts a score has. Assumes nothing.
use Prim.Native.Nat.{ℕ, ◌+◌, ◌-◌, ◌^◌, ◌≤◌, ◌<◌}
use mathlib.Core.Path.{◌≡◌, refl, sym, ap}
use mathlib.Core.List.{[], ◌∷◌}
use mathlib.Core.Bool.{Bool, true, false, cond}
use native.Mathlib.Omega.{arith}
use borrow.Author.Tests.{ltb-true, ltb-false, leb-true, leb-false, lt-ltb, le-ltb, lt-leb, le-leb}
use lib.Dec.{ltb, leb}
use Rattle.outcome.specs.First.{◌⇒◌, first_of, or_else}
use Rattle.outcome.specs.declared.answer.Refusal.{Refusal}
use Rattle.outcome.specs.declared.answer.Refusal.TheVariants.{Draws}
use Rattle.outcome.specs.Outcome.{Verdict}
use Rattle.std.specs.Prelude.{Ok, Err, Option, None, Some, is_some}
use Rattle.score.specs.Score.{Score, score_draws}
use Rattle.score.specs.Refusals.{refusal, refusal_at}
use Rattle.score_draws.specs.Sum.{sum_of}

over_is : (b : Bool) (D : ℕ) → None ≡ cond b None (Some D) → b ≡ true
over_is true D e = refl
over_is false D e = cc

total_is : (b : Bool) (D t : ℕ) → Some t ≡ cond b None (Some D) → (b ≡ false) × (t ≡ D)
total_is true D t e = (cc, cc)
total_is false D t e = (refl, cc)

module _ (left D : ℕ) where
  pub sum_over : None ≡ sum_of left D → leb D left ≡ false
  sum_over e = lt-leb D left (ltb-true left D (over_is (ltb left D) D e))

  module _ (t : ℕ) (e : Some t ≡ sum_of left D) where
    pub total_exact : t ≡ D
    total_exact = (total_is (ltb left D) D t e).1

    pub total_fits : leb D left ≡ true
    total_fits = le-leb D left (ltb-false left D (total_is (ltb left D) D t e).0)

-- whether there is a sum
pub some_fits : (left D : ℕ) (o : Option ℕ) → o ≡ sum_of left D → is_some o ≡ leb D left
some_fits left D None e = sym (sum_over left D e)
some_fits left D (Some t) e = sym (total_fits left D t e)

-- 22 applies where none before it does and the draws pass what is left
module _ (s : Score) (d : ℕ) where
  pub refused_first : {r : Refusal} → Err r ≡ refusal s → Err r ≡ refusal_at s d
  unfolding refusal_at
  refused_first e = ap (λ (v : Verdict). or_else v (first_of ((ltb (2 ^ 64 - 1) (d + score_draws s) ⇒ Draws) ∷ []))) e

  module _ (none : Ok tt ≡ refusal s) (fits : d < 2 ^ 64) where
    pub refused_last : leb (score_draws s) (2 ^ 64 - 1 - d) ≡ false → Err Draws ≡ refusal_at s d
    unfolding refusal_at first_of
    refused_last o =
        let h : 2 ^ 64 - 1 < d + score_draws s = omega (arith, leb-false (score_draws s) (2 ^ 64 - 1 - d) o) in
        rw (sym none, lt-ltb _ _ h)

    pub refused_not : leb (score_draws s) (2 ^ 64 - 1 - d) ≡ true → Ok tt ≡ refusal_at s d
    unfolding refusal_at first_of
    refused_not o =
        let h : d + score_draws s ≤ 2 ^ 64 - 1 = omega (arith, leb-true (score_draws s) (2 ^ 64 - 1 - d) o) in
        rw (sym none, le-ltb _ _ h)
