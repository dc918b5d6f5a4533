-- `word::wrapping_mul` meets its contract. Assumes nothing.
use Rattle.std.proofs.Common.{ℕ, ◌+◌, ◌*◌, ◌%◌, ◌^◌, ◌<◌, ap, ◌∙◌, lt_of_le_of_lt, le_of_lt, mul-le-mul_right, pow_pos, shr_lt, w64, Fits, rules}
use native.Mathlib.Nat.{mul-lt-mul_of_pos_left}
use lib.Bits.{mask_lt, bit_and}
use Rattle.word.proofs.Halves.{halves64}
use Rattle.word.proofs.wrapping_mul.Goals as goal

product_fits : {x y : ℕ} → x < 2 ^ 32 → y < 2 ^ 32 → Fits w64 (x * y)
product_fits {x} {y} hx hy = record { fits = lt_of_le_of_lt (mul-le-mul_right y (le_of_lt hx)) (mul-lt-mul_of_pos_left hy (pow_pos 32)) }

pub overflow_mul-a1 : goal.overflow_mul-a1
overflow_mul-a1 c = product_fits (shr_lt 32 32 c.ranges.a.fits) (mask_lt c.args.b 32)

pub overflow_mul-a0 : goal.overflow_mul-a0
overflow_mul-a0 c = product_fits (mask_lt c.args.a 32) (shr_lt 32 32 c.ranges.b.fits)

pub overflow_mul-a0-2 : goal.overflow_mul-a0-2
overflow_mul-a0-2 c = product_fits (mask_lt c.args.a 32) (mask_lt c.args.b 32)

pub returns : goal.returns
returns c =
    let a = c.args.a in
    let b = c.args.b in
    c.wrapping_add_u64.ensures.value
    ∙ ap (λ (s : ℕ). (s * 2 ^ 32 % 2 ^ 64 + bit_and a 0xffff_ffff * bit_and b 0xffff_ffff) % 2 ^ 64) c.wrapping_add_u64-cross.ensures.value
    ∙ halves64 a b
