-- The remainder of a shifted number, in steps of 40 places. Assumes nothing.
use mathlib.Core.Path.{◌≡◌, sym, ap, ◌∙◌}
use Prim.Native.Nat.{ℕ, ◌+◌, ◌-◌, ◌*◌, ◌%◌, ◌^◌, ◌≤◌, ◌<◌}
use native.Mathlib.Nat.{mul_assoc, mod-lt, mod-eq_of_lt, mul-le-mul, mul-lt-mul_of_pos_right, lt_of_lt_of_le}
use native.Mathlib.Omega.{arith}
use lib.Dec.{lit≤}
use lib.Pow.{pow-add, pow_pos, pow_mono}
use Rattle.word.proofs.Modulo.{mod_mul_mod}

-- with `left` places still to go: r is a remainder, and shifted on it is that of all places
pub record Partly (a shift q r left : ℕ) : Type 0 where
  pub small : r < q
  pub is : r * 2 ^ left % q ≡ a * 2 ^ shift % q

module _ (a shift q : ℕ) (Q : 0 < q) (W : q ≤ 2 ^ 24) where
  pub at_first : Partly a shift q (a % q) shift
  at_first = record { small = mod-lt a Q; is = mod_mul_mod a (2 ^ shift) q }

  -- no more than 40 places are shifted out of 64
  unwrapped : (r k : ℕ) → r < q → k ≤ 40 → r * 2 ^ k % 2 ^ 64 ≡ r * 2 ^ k
  unwrapped r k h l =
      let wide : 2 ^ k ≤ 2 ^ 40 = pow_mono {j = 40} l in
      mod-eq_of_lt (lt_of_lt_of_le (mul-lt-mul_of_pos_right h (pow_pos k)) (mul-le-mul W wide))

  pub stepped : (r left : ℕ) → 40 < left → Partly a shift q r left → Partly a shift q (r * 2 ^ 40 % 2 ^ 64 % q) (left - 40)
  stepped r left l p = record {
    small = mod-lt (r * 2 ^ 40 % 2 ^ 64) Q;
    is = mod_mul_mod (r * 2 ^ 40 % 2 ^ 64) (2 ^ (left - 40)) q
        ∙ ap (λ (n : ℕ). n * 2 ^ (left - 40) % q) (unwrapped r 40 p.small (lit≤ tt))
        ∙ ap (λ (n : ℕ). n % q) (mul_assoc r (2 ^ 40) (2 ^ (left - 40)) ∙ ap (λ (n : ℕ). r * n) (sym (pow-add 2 40 (left - 40)) ∙ ap (λ (n : ℕ). 2 ^ n) (all left l)))
        ∙ p.is;
  }
    where
      all : (left : ℕ) → 40 < left → 40 + (left - 40) ≡ left
      all left l = omega arith

  pub at_last : (r left : ℕ) → left ≤ 40 → Partly a shift q r left → r * 2 ^ left % 2 ^ 64 % q ≡ a * 2 ^ shift % q
  at_last r left l p = ap (λ (n : ℕ). n % q) (unwrapped r left p.small l) ∙ p.is
