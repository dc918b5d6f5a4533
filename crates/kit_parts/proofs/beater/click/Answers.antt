-- `kit_parts::beater::click` meets its contract. Assumes nothing.
use mathlib.Core.Path.{refl}
use Rattle.laws.proofs.If.{if_true, if_false}
use Rattle.kit_parts.proofs.Generator.{at_state}
use Rattle.kit_parts.proofs.beater.click.Goals as goal

pub returns-then-t-length : goal.returns-then-t-length
returns-then-t-length c =
    let taken = c.if-t-length.true in
    (if_true _ taken (rw c.bi-d.ensures.0), at_state (if_true _ taken c.bi-d.ensures.1))

pub returns : goal.returns
returns c = (if_false _ c.if-t-length.false refl, at_state (if_false _ c.if-t-length.false refl))
