-- `voice_epiano::bend` meets its contract. Assumes nothing.
use native.Mathlib.Omega.{arith}
use Prim.Native.Nat.{◌-◌, ◌≤◌}
use mathlib.Core.Path.{◌≡◌, refl, ap, ◌∙◌}
use lib.ListN.{length}
use lib.Ieee.{nan}
use Rattle.blocks.proofs.Rows.{Rows, rows_none, rows_more, rows_all, written_length}
use Rattle.voice_epiano.specs.Block.{body_turn_at, tine_turn_at, outer_turns, outer_turns_at}
use borrow.Author.Rules.{rules}
use Rattle.voice_epiano.proofs.bend.Goals as goal

pub loop-k-init : goal.loop-k-init
loop-k-init c = (omega arith, c.requires.1, rows_none)

pub body_turn_at-body-requires : goal.body_turn_at-body-requires
body_turn_at-body-requires c = omega (arith, c.loop-k-test.true, c.requires.0)

pub tine_turn_at-tine-requires : goal.tine_turn_at-tine-requires
tine_turn_at-tine-requires c = omega (arith, c.loop-k-test.true, c.requires.0)

pub overflow_step-k : goal.overflow_step-k
overflow_step-k c = omega (arith, c.loop-k-test.true, c.requires.0)

pub loop-k-preserved : goal.loop-k-preserved
unfolding outer_turns outer_turns_at body_turn_at tine_turn_at
loop-k-preserved c =
    let v = c.loop-k.invariant in
    let l = c.loop-k-test.true in
    let z = rw (c.tine_turn_at-tine.ensures, c.body_turn_at-body.ensures) at c.store.ensures in
    (omega (arith, l), ap length z ∙ written_length _ _ _ ∙ v.1, rows_more v.2 refl (omega (arith, l, v.1, c.requires.0)) refl z)

pub returns : goal.returns
returns c = (c.loop-k.invariant.1, rows_all c.loop-k.invariant.2 (omega arith))
