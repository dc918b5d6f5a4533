-- `exp_fall::expf_falling` meets its contract. Assumes nothing.
use mathlib.Core.Path.{◌≡◌, ap, sym, ◌∙◌, subst}
use Prim.Native.Nat.{ℕ, ◌+◌}
use native.Mathlib.Omega.{arith}
use denote.Floats.{passes}
use lib.Ieee.{binary64, of_bits, to_bits}
use lib.Ieee.Bits.{of_bits-to_bits}
use Rattle.ieee.specs.Narrow.{narrow_of}
use Rattle.exp_fall.proofs.Falls.{Normal, falling_low, falling_reduced, falling_normal}
use Rattle.exp_fall.proofs.expf_falling.Goals as goal

pub exp_low-requires : goal.exp_low-requires
exp_low-requires c = falling_low c.args.x c.requires

pub float_to_bits-exp_low : goal.float_to_bits-exp_low
float_to_bits-exp_low c = (subst Normal (sym c.exp_low.ensures) (falling_normal c.args.x c.requires)).number

pub narrow_normal-requires : goal.narrow_normal-requires
narrow_normal-requires c = let n = subst Normal (sym c.exp_low.ensures) (falling_normal c.args.x c.requires) in (n.least, n.most)

plain : (n : ℕ) → 0 + n ≡ n
plain n = omega arith

pub returns : goal.returns
returns c =
    let y = c.exp_low in
    c.narrow_normal.ensures
    ∙ ap narrow_of (ap (of_bits binary64) (plain (to_bits binary64 y.result)) ∙ of_bits-to_bits binary64 y.result (passes _ y.type_inv)
    ∙ y.ensures ∙ falling_reduced c.args.x c.requires)
