-- Products modulo m. Assumes nothing.
use Rattle.std.proofs.Common.{◌≡◌, ℕ, ◌+◌, ◌*◌, ◌/◌, ◌%◌, sym, ap, ◌∙◌, add-mul, mul_right_comm}
use native.Mathlib.Nat.{mod-add-div', add-mul-mod_self_right}

-- a factor may be taken modulo m first
pub mod_mul_mod : (x k m : ℕ) → x % m * k % m ≡ x * k % m
mod_mul_mod x k m =
    sym (add-mul-mod_self_right (x % m * k) (x / m * k) m)
    ∙ ap (λ (n : ℕ). n % m)
    (ap (λ (z : ℕ). x % m * k + z) (mul_right_comm (x / m) k m) ∙ sym (add-mul (x % m) (x / m * m) k) ∙ ap (λ (z : ℕ). z * k) (mod-add-div' x m))
