-- Sums and differences that lose nothing, by value, for both formats; and comparisons by value. Assumes nothing.
use mathlib.Core.Path.{◌≡◌, refl, sym, ap, ◌∙◌, subst}
use Prim.Native.Nat.{ℕ, ◌+◌, ◌-◌, ◌*◌, ◌^◌, ◌≤◌, ◌<◌}
use native.Mathlib.Nat.{mul-pos}
use mathlib.Core.Bool.{Bool, true, false, not, cond}
use borrow.Author.Tests.{le-ltb}
use lib.Ieee.{Float, nan, inf, fin, Format, prec, low, round, sum, add, sub, neg}
use lib.Ieee.Exact.{HasValue}
use Rattle.ieee.proofs.Value.{add_value}
use Rattle.ieee.proofs.Exactly.{round_value}

pub neg_value : (x : Float) (s : Bool) (a c : ℕ) → HasValue x s a c → HasValue (neg x) (not s) a c
unfolding neg
neg_value nan s a c v = v
neg_value (inf t) s a c v = v
neg_value (fin t m e) s a c v = (ap not v.0, v.1)

-- ---- x is a / c and y is b / d, neither below zero; the result is q / 2 ^ l with q of at most `prec` digits
module _ (f : Format) (x y : Float) (a c b d : ℕ) (C : 0 < c) (D : 0 < d) (v : HasValue x false a c) (w : HasValue y false b d) (q l : ℕ) (small : q < 2 ^ prec f) (place : l ≤ low f) where
  pub add_exact : (a * d + b * c) * 2 ^ l ≡ q * (c * d) → HasValue (add f x y) false (a * d + b * c) (c * d)
  add_exact e =
      subst (λ (z : Float). HasValue z false (a * d + b * c) (c * d)) (sym (add_value f x y false false a c b d C D v w ∙ sum_is))
      (round_value f false q l small place (a * d + b * c) (c * d) (mul-pos C D) e)
    where
      sum_is : sum f false (a * d) false (b * c) (c * d) ≡ round f false (a * d + b * c) (c * d)
      sum_is = unfold sum in refl

  pub sub_exact : b * c ≤ a * d → (a * d - b * c) * 2 ^ l ≡ q * (c * d) → HasValue (sub f x y) false (a * d - b * c) (c * d)
  unfolding sub
  sub_exact h e =
      subst (λ (z : Float). HasValue z false (a * d - b * c) (c * d)) (sym (add_value f x (neg y) false true a c b d C D v (neg_value y false b d w) ∙ sum_is))
      (round_value f false q l small place (a * d - b * c) (c * d) (mul-pos C D) e)
    where
      sum_is : sum f false (a * d) true (b * c) (c * d) ≡ round f false (a * d - b * c) (c * d)
      sum_is = unfold sum in ap (λ (t : Bool). cond t (round f true (b * c - a * d) (c * d)) (round f false (a * d - b * c) (c * d))) (le-ltb (a * d) (b * c) h)
