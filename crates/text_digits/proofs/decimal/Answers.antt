-- `text_digits::decimal` meets its contract. The loop's invariant: reading on from here gives what reading from the start gives, and v fits. Assumes nothing.
use Prim.Native.Nat.{◌-◌}
use mathlib.Core.Path.{refl, ◌∙◌}
use native.Mathlib.Omega.{arith}
use Rattle.text_digits.proofs.Reading.{decimal_none, decimal_zero, decimal_bad, decimal_start, digits_end, digits_stop, digits_more, digits_over}
use lib.ListN.{length}
use mathlib.Core.Path.{◌≡◌}
use Rattle.text_digits.proofs.decimal.Goals as goal

pub returns-then-s-start : goal.returns-then-s-start
returns-then-s-start c = decimal_none _ _ _ 0 c.if-s-start.true

pub returns-then-first-eq48 : goal.returns-then-first-eq48
returns-then-first-eq48 c = decimal_zero _ _ _ 0 c.if-s-start.false c.if-first-eq48.true

pub returns-in_err-v : goal.returns-in_err-v
returns-in_err-v c =
    rw c.from_residual.ensures (decimal_bad _ _ _ _ c.if-s-start.false c.if-first-eq48.false refl c.in_err-v.ensures)

pub loop-at-init : goal.loop-at-init
loop-at-init c = (omega arith, decimal_start _ _ _ _ c.if-s-start.false c.if-first-eq48.false c.in_ok-v.ensures.0 c.in_ok-v.ensures.1)

pub returns-in_default : goal.returns-in_default
returns-in_default c =
    digits_stop _ _ _ _ _ c.loop-at-test.true refl c.in_default.ensures c.loop-at.invariant.0 ∙ c.loop-at.invariant.1

pub returns-then-most-next : goal.returns-then-most-next
returns-then-most-next c =
    digits_over _ _ _ (omega arith) ∙ digits_more _ _ _ _ _ c.loop-at-test.true c.in-Some.ensures.0 c.in-Some.ensures.1 ∙ c.loop-at.invariant.1

pub loop-at-preserved : goal.loop-at-preserved
loop-at-preserved c =
    (omega arith, digits_more _ _ _ _ _ c.loop-at-test.true c.in-Some.ensures.0 c.in-Some.ensures.1 ∙ c.loop-at.invariant.1)

pub returns : goal.returns
returns c =
    let z : c.loop-at.at ≡ length c.args.s.now = omega arith in
    rw (← z) (digits_end _ _ _ _ 0 c.loop-at-test.false c.loop-at.invariant.0 ∙ c.loop-at.invariant.1)
