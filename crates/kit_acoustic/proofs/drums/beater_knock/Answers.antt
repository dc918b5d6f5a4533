-- `kit_acoustic::drums::beater_knock` meets its contract: each call by what it ensures. Assumes nothing.
use Rattle.kit_parts.proofs.Generator.{at_state}
use mathlib.Core.Path.{refl}
use Rattle.laws.proofs.If.{if_true, if_false}
use Rattle.kit_acoustic.specs.Drums.{acoustic_knock}
use Rattle.kit_acoustic.proofs.drums.beater_knock.Goals as goal

pub returns-then-t : goal.returns-then-t
unfolding acoustic_knock
returns-then-t c =
    if_true _ c.if-t.true (rw (c.exp-then-t.ensures, c.exp.ensures, c.sin.ensures, at_state c.bi-w.ensures.1, c.bi-w.ensures.0))

pub returns : goal.returns
unfolding acoustic_knock
returns c = if_false _ c.if-t.false refl
