-- Use for what a text comes to unless a number refuses it. Assumes nothing.
use Prim.Native.Nat.{ℕ, zero, suc, ◌<◌}
use mathlib.Core.Path.{◌≡◌, refl}
use native.Mathlib.Omega.{arith}
use Rattle.text_judge.specs.Refusal.{unless_refused}

module _ {X : Type 0} (refused : ℕ → X) where
  -- a number that is not 0 refuses
  pub number_refuses : (n : ℕ) (x : X) → 0 < n → refused n ≡ unless_refused refused n x
  number_refuses zero x h = absurd (omega arith)
  number_refuses (suc n) x h = refl

  -- two of one text are the same if they are where nothing refuses it
  pub unless_same : (n : ℕ) (x y : X) → (n ≡ 0 → x ≡ y) → unless_refused refused n x ≡ unless_refused refused n y
  unless_same zero x y f = f refl
  unless_same (suc n) x y f = refl
