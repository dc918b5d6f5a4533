-- `det::logarithm::ln_split` meets its contract. Assumes nothing.
use borrow.Author.Rules.{rules}
use Prim.Native.Nat.{ℕ, ◌/◌, ◌^◌, ◌<◌}
use native.Mathlib.Nat.{lt_trans}
use lib.Dec.{lit<}
use lib.Bits.{bit_and, mask_lt}
use lib.IntN.{pos, ◌-ℤ◌}
use lib.Ieee.{Float, binary64, to_bits}
use mir.Syntax.{w64}
use mir.Val.{to_z, of_z}
use Rattle.det.specs.Ln.{ln_split}
use Rattle.float.proofs.Signed.{back}
use Rattle.det.proofs.Pattern.{exponent_fits, exponent_is, exponent_small, fold_small, mantissa_number}
use Rattle.det.proofs.logarithm.ln_split.Goals as goal

-- the field of the exponent, as the code masks it
abbrev field : Float → ℕ
field x = bit_and (to_bits binary64 x / 2 ^ 52) 0x7ff

small : (x : Float) → field x < 2048
small x = mask_lt (to_bits binary64 x / 2 ^ 52) 11

pub float_to_bits-bits : goal.float_to_bits-bits
float_to_bits-bits c = c.requires

pub overflow_cast-exp_bits : goal.overflow_cast-exp_bits
overflow_cast-exp_bits c = record { sfits = lt_trans (small c.args.x) (lit< tt) }

pub overflow_sub-exp_bits : goal.overflow_sub-exp_bits
overflow_sub-exp_bits c = exponent_fits (field c.args.x) (small c.args.x)

pub float_from_bits-mant : goal.float_from_bits-mant
float_from_bits-mant c = mantissa_number (to_bits binary64 c.args.x)

pub fold_exp-requires : goal.fold_exp-requires
fold_exp-requires c = exponent_small (field c.args.x) (small c.args.x)

pub ln_series-requires : goal.ln_series-requires
ln_series-requires c =
    let x = c.args.x in
    fold_small c.fold_exp.result _ (to_z w64 (of_z w64 (to_z w64 (field x) -ℤ pos 1023))) c.fold_exp.ensures (exponent_small (field x) (small x))

pub returns : goal.returns
unfolding ln_split
returns c =
    let x = c.args.x in
    let e = c.fold_exp in
    rw (c.ln_series.ensures, back e.result e.type_inv, e.ensures, exponent_is (field x) (small x), c.fold_mant.ensures)
