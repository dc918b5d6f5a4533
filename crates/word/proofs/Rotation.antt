-- Two shifts and an `or` are the rotation, at every count. Assumes nothing.
use Rattle.std.proofs.Common.{◌≡◌, ℕ, ◌+◌, ◌-◌, ◌*◌, ◌/◌, ◌%◌, ◌^◌, ◌<◌, ◌≤◌, sym, ap, ◌∙◌, subst, add-zero, mod-eq_of_lt, mul-one, arith, shr_lt}
use native.Mathlib.Nat.{mul-mod_left, div-eq_of_lt}
use lib.Pow.{shl-shr, mod-pow-add}
use lib.Bits.{bit_or, or_shifted}
use Rattle.word.specs.Rotate.{rotated}

-- what a shift left keeps of j + k digits
kept : (x j k : ℕ) → x * 2 ^ k % 2 ^ (j + k) ≡ x % 2 ^ j * 2 ^ k
kept x j k =
    mod-pow-add (x * 2 ^ k) j k
    ∙ (λ i. shl-shr x k i % 2 ^ j * 2 ^ k + mul-mod_left x (2 ^ k) i)
    ∙ add-zero (x % 2 ^ j * 2 ^ k)

parted : (x j k : ℕ) → x < 2 ^ (j + k) → bit_or (x * 2 ^ k % 2 ^ (j + k)) (x / 2 ^ j) ≡ x % 2 ^ j * 2 ^ k + x / 2 ^ j
parted x j k h =
    let w : k + j ≡ j + k = omega arith in
    ap (λ (n : ℕ). bit_or n (x / 2 ^ j)) (kept x j k) ∙ or_shifted (x % 2 ^ j) k (x / 2 ^ j) (shr_lt k j (subst (λ (n : ℕ). x < 2 ^ n) (sym w) h))

pub rotation : (x k : ℕ) → x < 2 ^ 64 → k ≤ 64 → bit_or (x * 2 ^ k % 2 ^ 64) (x / 2 ^ (64 - k)) ≡ rotated x k
rotation x k h l =
    let w : 64 - k + k ≡ 64 = omega arith in
    subst (λ (n : ℕ). bit_or (x * 2 ^ k % 2 ^ n) (x / 2 ^ (64 - k)) ≡ rotated x k) w (parted x (64 - k) k (subst (λ (n : ℕ). x < 2 ^ n) (sym w) h))

none : (x : ℕ) → x < 2 ^ 64 → x ≡ rotated x 0
none x h = sym ((λ i. mod-eq_of_lt h i * 1 + div-eq_of_lt h i) ∙ add-zero (x * 1) ∙ mul-one x)

pub no_rotation : (x k : ℕ) → x < 2 ^ 64 → k ≡ 0 → x ≡ rotated x k
no_rotation x k h e = none x h ∙ ap (rotated x) (sym e)
