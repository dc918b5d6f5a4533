-- `rounding::square_root::isqrt48` meets its contract. The invariant: after i of 24 digits r is the root up to 2 ^ (24 - i). Assumes nothing.
use Rattle.std.proofs.Common.{ℕ, ◌+◌, ◌-◌, ◌*◌, ◌%◌, ◌^◌, ◌<◌, ◌≤◌, sym, subst, lt_of_le_of_lt, le_of_lt, mul-le-mul, arith, lit<}
use Rattle.ieee.proofs.Roots.{Found, weight, next_room, set_digit, clear_digit, last_digit, first_digit}
use Rattle.rounding.proofs.square_root.isqrt48.Goals as goal
use Rattle.rounding.proofs.square_root.isqrt48.Goals.{then-t-m, else-t-m}

-- the digit's weight
abbrev wt : ℕ → ℕ
wt i = 1 * 2 ^ (23 - i) % 2 ^ 64

below : (m r i : ℕ) → Found m r i → i < 24 → r + wt i < 2 ^ 24
below m r i found low = next_room m r i (wt i) found low (weight i)

pub loop-i-init : goal.loop-i-init
loop-i-init c = first_digit c.args.m c.requires

pub overflow_add-t : goal.overflow_add-t
overflow_add-t c = record { fits = omega (arith, below _ _ _ c.loop-i.invariant c.loop-i-test.true) }

pub overflow_mul-t : goal.overflow_mul-t
overflow_mul-t c =
    let few = below _ _ _ c.loop-i.invariant c.loop-i-test.true in
    record { fits = lt_of_le_of_lt (mul-le-mul (le_of_lt few) (le_of_lt few)) (lit< tt) }

pub loop-i-preserved : goal.loop-i-preserved
loop-i-preserved c =
    let l = c.loop-i in
    let m = c.args.m in
    elim c.if-t-m.branch [
      | then-t-m w ↦ subst (λ (r : ℕ). Found m r (l.i + 1)) (sym w.r-is) (set_digit m l.r l.i (wt l.i) l.invariant c.loop-i-test.true (weight l.i) w.if-t-m.true)
      | else-t-m w ↦ subst (λ (r : ℕ). Found m r (l.i + 1)) (sym w.r-is) (clear_digit m l.r l.i (wt l.i) l.invariant c.loop-i-test.true (weight l.i) w.if-t-m.false)
    ]

pub returns : goal.returns
returns c = last_digit c.args.m c.loop-i.r c.loop-i.i c.loop-i.invariant c.loop-i-test.false
