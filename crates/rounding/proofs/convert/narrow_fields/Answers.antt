-- `rounding::convert::narrow_fields` meets its contract: what x is, is read off its pattern's three fields. Assumes nothing.
use Rattle.std.proofs.Common.{◌≡◌, ℕ, ◌/◌, ◌^◌, ◌<◌, ◌∙◌, arith, lit<, rules}
use lib.Bits.{mask_lt}
use lib.Ieee.{binary64, to_bits}
use denote.Floats.{passes}
use Rattle.rounding.proofs.Pack.{inf_bits}
use Rattle.rounding.proofs.Narrowing.{case_top, case_low, case_mid, case_zero, sign, digits}
use Rattle.rounding.proofs.convert.narrow_fields.Goals as goal

positive : (n : ℕ) → (n ≡ 0 → ⊥) → 0 < n
positive n h = omega arith

pub float_to_bits-bits : goal.float_to_bits-bits
float_to_bits-bits c = c.requires

pub returns-then-field-eq2047 : goal.returns-then-field-eq2047
returns-then-field-eq2047 c =
    c.signed_f32.ensures ∙ inf_bits _ ∙ case_top c.args.x (passes _ c.well_formed.0.1) c.requires c.if-field-eq2047.true

pub returns-then-digits-eq0 : goal.returns-then-digits-eq0
returns-then-digits-eq0 c =
    let fit = passes _ c.well_formed.0.1 in
    c.signed_f32-then-digits-eq0.ensures ∙ case_zero (sign c.args.x fit) (digits c.args.x fit) c.if-digits-eq0.true ∙ case_low c.args.x fit c.if-field-eq0.true

pub narrow_digits-requires : goal.narrow_digits-requires
narrow_digits-requires c =
    let d = mask_lt (to_bits binary64 c.args.x) 52 in
    (positive _ c.if-digits-eq0.false, omega arith, lit< tt)

pub returns-then-field-eq0 : goal.returns-then-field-eq0
returns-then-field-eq0 c =
    c.narrow_digits.ensures ∙ case_low c.args.x (passes _ c.well_formed.0.1) c.if-field-eq0.true

pub overflow_add-digits : goal.overflow_add-digits
overflow_add-digits c = let d = mask_lt (to_bits binary64 c.args.x) 52 in record { fits = omega arith }

pub narrow_digits-requires-2 : goal.narrow_digits-requires-2
narrow_digits-requires-2 c =
    let d = mask_lt (to_bits binary64 c.args.x) 52 in
    let f = mask_lt (to_bits binary64 c.args.x / 2 ^ 52) 11 in
    (omega arith, omega arith, omega arith)

pub returns : goal.returns
returns c =
    c.narrow_digits-2.ensures ∙ case_mid c.args.x (passes _ c.well_formed.0.1) c.if-field-eq0.false c.if-field-eq2047.false
