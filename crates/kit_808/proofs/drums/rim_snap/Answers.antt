-- `kit_808::drums::rim_snap` meets its contract. Assumes nothing.
use mathlib.Core.Path.{refl}
use Rattle.laws.proofs.If.{if_true, if_false}
use Rattle.kit_parts.proofs.Generator.{at_state}
use Rattle.kit_808.specs.Drums.{eight08_snap}
use Rattle.kit_808.proofs.drums.rim_snap.Goals as goal

pub returns-then-t : goal.returns-then-t
unfolding eight08_snap
returns-then-t c =
    let d = c.bi-d.ensures in
    let taken = c.if-t.true in
    (if_true _ taken (rw (c.exp.ensures, d.0)), at_state (if_true _ taken d.1))

pub returns : goal.returns
unfolding eight08_snap
returns c = (if_false _ c.if-t.false refl, at_state (if_false _ c.if-t.false refl))
