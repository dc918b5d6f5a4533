-- `text_digits::hex` meets its contract. The loop's invariant: reading on from here gives what reading from the start gives, and v has no more than the digits read. Assumes nothing.
use borrow.Author.Rules.{rules}
use Prim.Native.Nat.{◌-◌}
use mathlib.Core.Path.{◌≡◌, refl, ◌∙◌}
use native.Mathlib.Omega.{arith}
use Rattle.text_digits.proofs.Reading.{hex_none, hex_bad, hex_more, hex_room, hex_all}
use Rattle.text_digits.proofs.hex.Goals as goal

pub loop-i-init : goal.loop-i-init
loop-i-init c = let z : c.args.count - 0 ≡ c.args.count = omega arith in (search rules, search rules, rw z)

pub returns-then-s-at : goal.returns-then-s-at
returns-then-s-at c = hex_none _ _ _ 0 c.loop-i-test.true c.if-s-at.true ∙ c.loop-i.invariant.2

pub returns-in_err-d : goal.returns-in_err-d
returns-in_err-d c =
    rw c.from_residual.ensures (hex_bad _ _ _ _ c.loop-i-test.true c.if-s-at.false refl c.in_err-d.ensures ∙ c.loop-i.invariant.2)

pub overflow_mul-v : goal.overflow_mul-v
overflow_mul-v c = let r = hex_room _ _ _ (omega arith) c.loop-i.invariant.0 c.in_ok-d.ensures.1 in omega arith

pub overflow_add-v : goal.overflow_add-v
overflow_add-v c = let r = hex_room _ _ _ (omega arith) c.loop-i.invariant.0 c.in_ok-d.ensures.1 in omega arith

pub loop-i-preserved : goal.loop-i-preserved
loop-i-preserved c =
    let inv = c.loop-i.invariant in
    let read = hex_more _ _ _ _ c.loop-i-test.true c.if-s-at.false c.in_ok-d.ensures.0 c.in_ok-d.ensures.1 ∙ inv.2 in
    ((hex_room _ _ _ (omega arith) inv.0 c.in_ok-d.ensures.1).1, search rules, read)

pub returns : goal.returns
returns c = hex_all c.loop-i.invariant.1 c.loop-i-test.false ∙ c.loop-i.invariant.2
