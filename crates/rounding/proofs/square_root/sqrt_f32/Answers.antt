-- `rounding::square_root::sqrt_f32` meets its contract. Assumes nothing.
use Rattle.std.proofs.Common.{◌/◌, ◌^◌, ◌<◌, ◌∙◌, lt_of_lt_of_le, arith, lit<, lit≤, rules}
use lib.Bits.{mask_lt}
use lib.Ieee.{binary32, to_bits, of_bits, div}
use lib.Ieee.Bits.{to_bits-lt}
use denote.Floats.{passes}
use Rattle.ieee.proofs.Nans.{no_nan, is_nan_lem}
use Rattle.rounding.proofs.RootCases.{root_nan, root_zero, root_below, case_inf, case_low, case_mid, digits_pos}
use Rattle.rounding.proofs.square_root.sqrt_f32.Goals as goal

pub returns-then-x : goal.returns-then-x
returns-then-x c = root_nan c.args.x (is_nan_lem c.args.x c.if-x.true)

pub returns-then-x-2 : goal.returns-then-x-2
unfolding of_bits
returns-then-x-2 c = root_zero c.args.x c.if-x-2.true

pub returns-then-x-3 : goal.returns-then-x-3
unfolding of_bits div
returns-then-x-3 c = root_below c.args.x c.if-x-3.true

pub float_to_bits-bits : goal.float_to_bits-bits
float_to_bits-bits c = no_nan c.args.x c.if-x.false

pub overflow_cast-bits : goal.overflow_cast-bits
overflow_cast-bits c = record { fits = lt_of_lt_of_le (to_bits-lt binary32 c.args.x (passes _ c.well_formed.0.1)) (lit≤ tt) }

pub returns-then-field-eq255 : goal.returns-then-field-eq255
unfolding of_bits
returns-then-field-eq255 c =
    case_inf c.args.x (passes _ c.well_formed.0.1) (no_nan c.args.x c.if-x.false) c.if-x-3.false c.if-field-eq255.true

pub root_digits-requires : goal.root_digits-requires
unfolding of_bits
root_digits-requires c =
    (digits_pos c.args.x (passes _ c.well_formed.0.1) c.if-x-2.false c.if-field-eq0.true, lt_of_lt_of_le (mask_lt (to_bits binary32 c.args.x) 23) (lit≤ tt), lit< tt)

pub returns-then-field-eq0 : goal.returns-then-field-eq0
unfolding of_bits
returns-then-field-eq0 c =
    c.root_digits.ensures ∙ case_low c.args.x (passes _ c.well_formed.0.1) c.if-x-2.false c.if-x-3.false c.if-field-eq0.true

pub overflow_add-digits : goal.overflow_add-digits
overflow_add-digits c = let d = mask_lt (to_bits binary32 c.args.x) 23 in record { fits = omega arith }

pub root_digits-requires-2 : goal.root_digits-requires-2
root_digits-requires-2 c =
    let d = mask_lt (to_bits binary32 c.args.x) 23 in
    let f = mask_lt (to_bits binary32 c.args.x / 2 ^ 23) 8 in
    (omega arith, omega arith, omega arith)

pub returns : goal.returns
unfolding of_bits
returns c =
    c.root_digits-2.ensures ∙ case_mid c.args.x (passes _ c.well_formed.0.1) c.if-x-3.false c.if-field-eq0.false c.if-field-eq255.false
