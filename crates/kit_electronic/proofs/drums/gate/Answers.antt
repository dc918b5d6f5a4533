-- `kit_electronic::drums::gate` meets its contract: each call by what it ensures. Assumes nothing.
use mathlib.Core.Path.{refl}
use Rattle.laws.proofs.If.{if_true, if_false}
use Rattle.kit_electronic.specs.Drums.{gate_of}
use Rattle.kit_electronic.proofs.drums.gate.Goals as goal

pub returns-then-t : goal.returns-then-t
unfolding gate_of
returns-then-t c = if_true _ c.if-t.true refl

pub returns : goal.returns
unfolding gate_of
returns c = if_false _ c.if-t.false (rw c.exp.ensures)
