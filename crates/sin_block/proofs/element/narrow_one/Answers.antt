-- `sin_block::element::narrow_one` meets its contract. Assumes nothing.
use native.Mathlib.Omega.{arith}
use denote.Floats.{passes}
use lib.Ieee.{binary64, to_bits}
use lib.Ieee.Bits.{to_bits-lt}
use Rattle.ieee.proofs.Nans.{plain_bits}
use Rattle.sin_block.proofs.Below.{sign_small, one_plain, castable, below_two}
use borrow.Author.Rules.{rules}
use Rattle.sin_block.proofs.element.narrow_one.Goals as goal

pub overflow_add-one : goal.overflow_add-one
overflow_add-one c = let v = c.within-v in omega (arith, sign_small (to_bits binary64 v.result) (to_bits-lt binary64 v.result (passes _ v.type_inv)))

pub float_from_bits-one : goal.float_from_bits-one
float_from_bits-one c = let v = c.within-v in plain_bits binary64 _ (one_plain (to_bits binary64 v.result) (to_bits-lt binary64 v.result (passes _ v.type_inv)))

pub float_to_float-value : goal.float_to_float-value
float_to_float-value c =
    let v = c.within-v in
    let z = c.rounded-z in
    castable v.result z.result (passes _ v.type_inv) z.ensures

pub returns : goal.returns
returns c =
    let v = c.within-v in (
      omega (arith, c.not_below-bad.ensures.0),
      λ e. let h = c.not_below-bad.ensures.1 e in
          below_two v.result c.rounded-z.result (passes _ v.type_inv) c.rounded-z.ensures c.args.x h (v.ensures.1 h),
    )
