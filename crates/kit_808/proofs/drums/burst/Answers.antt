-- `kit_808::drums::burst` meets its contract: each call by what it ensures. Assumes nothing.
use mathlib.Core.Path.{refl}
use Rattle.laws.proofs.If.{if_true, if_false}
use Rattle.kit_808.specs.Drums.{burst_of}
use Rattle.kit_808.proofs.drums.burst.Goals as goal

pub returns-then-t : goal.returns-then-t
unfolding burst_of
returns-then-t c = if_true _ c.if-t.true (rw (c.exp.ensures, c.rem_f32-ph.ensures))

pub returns : goal.returns
unfolding burst_of
returns c = if_false _ c.if-t.false refl
