-- The loops of `rounding::square_root::isqrt48`.
use Rattle.std.proofs.Common.{ℕ, ◌+◌, ◌-◌, ◌*◌, ◌%◌, ◌^◌, ◌<◌, sym, subst, ⊎_elim, lt_of_le_of_lt, le_of_lt, mul-le-mul, arith, lit<}
use Rattle.ieee.proofs.Roots.{Found, weight, next_room, set_digit, clear_digit, last_digit, first_digit}
use Rattle.rounding.proofs.square_root.isqrt48.Given as goal

abbrev pub invariant-loop-i : goal.invariant-loop-i
invariant-loop-i l = Found l.m l.r l.i
