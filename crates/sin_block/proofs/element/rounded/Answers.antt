-- `sin_block::element::rounded` meets its contract. Assumes nothing.
use native.Mathlib.Omega.{arith}
use Prim.Native.Nat.{ℕ, ◌+◌, ◌-◌, ◌%◌, ◌^◌, ◌≤◌, ◌<◌}
use lib.Ieee.{binary64}
use Rattle.ieee.proofs.Nans.{plain_bits}
use Rattle.sin_block.proofs.Units.{narrow_size}
use borrow.Author.Rules.{rules}
use Rattle.sin_block.proofs.element.rounded.Goals as goal

at_most : (n k : ℕ) → n < 2 ^ 62 → k ≤ 2 ^ 60 → (n - n % 2 ^ 52 + k) % 2 ^ 63 ≤ 0x7ff0_0000_0000_0000
at_most n k h l = omega arith

itself : (n : ℕ) → n < 2 ^ 62 → n % 2 ^ 63 ≤ 0x7ff0_0000_0000_0000
itself n h = omega arith

pub float_from_bits-w : goal.float_from_bits-w
float_from_bits-w c = plain_bits binary64 _ (itself c.args.size c.requires)

pub float_from_bits-unit : goal.float_from_bits-unit
float_from_bits-unit c = plain_bits binary64 _ (at_most c.args.size _ c.requires (omega arith))

pub returns : goal.returns
returns c = narrow_size c.args.size c.requires c.pick-k.result c.pick-k.ensures
