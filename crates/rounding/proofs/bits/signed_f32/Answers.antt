-- `rounding::bits::signed_f32` meets its contract. Assumes nothing.
use Rattle.std.proofs.Common.{ℕ, ◌+◌, ◌%◌, ◌^◌, ◌≤◌, Bool, cond, sym, ap, ◌∙◌, add_comm, zero-add, arith, rules}
use lib.Ieee.{binary32, of_bits}
use Rattle.ieee.proofs.Nans.{plain_bits}
use Rattle.rounding.proofs.bits.signed_f32.Goals as goal

low_part : (p : ℕ) → p ≤ 0x7f80_0000 → (p + 0x8000_0000) % 2 ^ 31 ≤ 0x7f80_0000
low_part p h = omega arith

low_part' : (p : ℕ) → p ≤ 0x7f80_0000 → p % 2 ^ 31 ≤ 0x7f80_0000
low_part' p h = omega arith

pub float_from_bits-result : goal.float_from_bits-result
float_from_bits-result c = plain_bits binary32 (c.args.pattern + 0x8000_0000) (low_part c.args.pattern c.requires)

pub float_from_bits-result-else-sign : goal.float_from_bits-result-else-sign
float_from_bits-result-else-sign c = plain_bits binary32 c.args.pattern (low_part' c.args.pattern c.requires)

pub returns-then-sign : goal.returns-then-sign
returns-then-sign c =
    let p = c.args.pattern in
    ap (of_bits binary32) (add_comm p (2 ^ 31) ∙ ap (λ (b : Bool). cond b (2 ^ 31) 0 + p) (sym c.if-sign.true))

pub returns-else-sign : goal.returns-else-sign
returns-else-sign c =
    let p = c.args.pattern in
    ap (of_bits binary32) (sym (zero-add p) ∙ ap (λ (b : Bool). cond b (2 ^ 31) 0 + p) (sym c.if-sign.false))
