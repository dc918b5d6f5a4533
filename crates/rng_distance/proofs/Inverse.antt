-- Steps of G, counted: G times its inverse is 1 modulo 2^64. Assumes nothing.
use Rattle.std.proofs.Common.{◌≡◌, ℕ, ◌+◌, ◌*◌, ◌/◌, ◌%◌, ◌^◌, ◌<◌, sym, refl, ap, ◌∙◌, mod-eq_of_lt, mul_assoc, add-mul, mul-one, mul-add, mul_right_comm, arith}
use native.Mathlib.Nat.{mod-add-div', add-mul-mod_self_right, mul-add-mod_self_right}
use Rattle.rng.specs.SplitMix64.{gamma, state_after}

-- a factor may be taken modulo m
mod_times : (y i m : ℕ) → y % m * i % m ≡ y * i % m
mod_times y i m =
    sym
    (ap (λ (k : ℕ). k * i % m) (sym (mod-add-div' y m)) ∙ ap (λ (k : ℕ). k % m) (add-mul (y % m) (y / m * m) i ∙ ap (λ (k : ℕ). y % m * i + k) (mul_right_comm (y / m) m i))
    ∙ add-mul-mod_self_right (y % m * i) (y / m * i) m)

-- i is an inverse of g modulo m, up to the multiple q
unscaled : (d g i q m : ℕ) → g * i ≡ q * m + 1 → d < m → d * g * i % m ≡ d
unscaled d g i q m inverse lt =
    ap (λ (k : ℕ). k % m)
    (mul_assoc d g i ∙ ap (λ (k : ℕ). d * k) inverse ∙ mul-add d (q * m) 1 ∙ (λ j. sym (mul_assoc d q m) j + mul-one d j))
    ∙ mul-add-mod_self_right (d * q) m d ∙ mod-eq_of_lt lt

-- what the states of two generators differ by
gap_is : (s y gap : ℕ) → gap < 2 ^ 64 → (gap + s) % 2 ^ 64 ≡ (s + y) % 2 ^ 64 → gap ≡ y % 2 ^ 64
gap_is s y gap lt e = omega arith

pub steps_are : (s d gap : ℕ) → gap < 2 ^ 64 → d < 2 ^ 64 → (gap + s) % 2 ^ 64 ≡ state_after s d → gap * 0xF1DE_83E1_9937_733D % 2 ^ 64 ≡ d
steps_are s d gap lt few e =
    ap (λ (k : ℕ). k * 0xF1DE_83E1_9937_733D % 2 ^ 64) (gap_is s (d * gamma) gap lt e) ∙ mod_times (d * gamma) 0xF1DE_83E1_9937_733D (2 ^ 64)
    ∙ unscaled d gamma 0xF1DE_83E1_9937_733D 10771413168148108919 (2 ^ 64) refl few
