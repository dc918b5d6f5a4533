-- `rounding::convert::round_shift` meets its contract. Assumes nothing.
use Rattle.std.proofs.Common.{ℕ, ◌*◌, ◌%◌, ◌^◌, sym, div-le_self, arith, rules}
use native.Mathlib.Nat.{mod-le}
use lib.Arith.{lt_of_le-ne}
use Rattle.ieee.proofs.Rounding.{unit_is, unit_pos, round_down, round_tie, round_up}
use Rattle.rounding.proofs.convert.round_shift.Goals as goal

-- the unit as the code has it
abbrev unit : ℕ → ℕ
unit d = 1 * 2 ^ d % 2 ^ 64

pub nonzero_div-quotient : goal.nonzero_div-quotient
nonzero_div-quotient c = unit_pos c.args.d c.requires.0

pub nonzero_rem-rest : goal.nonzero_rem-rest
nonzero_rem-rest c = unit_pos c.args.d c.requires.0

pub overflow_mul-rest : goal.overflow_mul-rest
overflow_mul-rest c = record { fits = omega (arith, mod-le c.args.n (unit c.args.d)) }

pub overflow_add-result : goal.overflow_add-result
overflow_add-result c = record { fits = omega (arith, div-le_self c.args.n (unit c.args.d)) }

pub overflow_add-result-else-rest-unit-2 : goal.overflow_add-result-else-rest-unit-2
overflow_add-result-else-rest-unit-2 c = record { fits = omega (arith, div-le_self c.args.n (unit c.args.d)) }

pub returns-then-rest-unit : goal.returns-then-rest-unit
returns-then-rest-unit c =
    let a = c.args in
    round_down a.n a.d (unit a.d) (unit_is a.d c.requires.0) c.if-rest-unit.true

pub returns-then-rest-unit-2 : goal.returns-then-rest-unit-2
returns-then-rest-unit-2 c =
    let a = c.args in
    round_tie a.n a.d (unit a.d) (unit_is a.d c.requires.0) c.if-rest-unit-2.true

pub returns-else-rest-unit-2 : goal.returns-else-rest-unit-2
returns-else-rest-unit-2 c =
    let a = c.args in
    round_up a.n a.d (unit a.d) (unit_is a.d c.requires.0) (lt_of_le-ne c.if-rest-unit.false (λ e. c.if-rest-unit-2.false (sym e)))
