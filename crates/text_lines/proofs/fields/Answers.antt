-- `text_lines::fields` meets its contract. The loop's invariant: the values so far, before those that are read on from here, are those of the start. Assumes nothing.
use Prim.Native.Nat.{◌-◌}
use mathlib.Core.Path.{refl, ◌∙◌}
use native.Mathlib.Omega.{arith}
use lib.ListN.{length-set}
use Rattle.text_lines.proofs.Small.{field_small}
use Rattle.text_lines.proofs.Reading.{before_none, fields_bad, fields_more, fields_all, led_none, led_bad, led_more, led_all}
use Rattle.text_lines.proofs.fields.Goals as goal

pub loop-i-init : goal.loop-i-init
loop-i-init c = (omega arith, refl, before_none _, led_none)

pub returns-in_err-v : goal.returns-in_err-v
returns-in_err-v c =
    let is = c.field.ensures in
    let told = c.in_err-v.was in
    let inv = c.loop-i.invariant in
    let read = fields_bad _ _ c.args.s.now _ c.loop-i.at c.loop-i-test.true told is ∙ inv.2 in
    record {
      result_after = rw c.from_residual.ensures read;
      stored = led_bad inv.3 c.loop-i-test.true is told;
    }

pub overflow_cast-values : goal.overflow_cast-values
overflow_cast-values c =
    let h = field_small _ c.loop-i.at c.args.s.now c.in_ok-v.was c.field.ensures in
    omega arith

pub loop-i-preserved : goal.loop-i-preserved
loop-i-preserved c =
    let told = c.in_ok-v.was in
    let inv = c.loop-i.invariant in
    let test = c.loop-i-test.true in
    let read = fields_more _ _ c.args.s.now _ c.loop-i.at test (omega arith) told c.field.ensures ∙ inv.2 in
    (omega arith, rw length-set inv.1, read, led_more inv.3 test c.field.ensures (omega arith) told)

pub returns : goal.returns
returns c =
    let inv = c.loop-i.invariant in
    record {
      result_after = fields_all _ _ _ inv.0 c.loop-i-test.false ∙ inv.2;
      stored = led_all inv.3 c.loop-i-test.false;
    }
