-- `kit_electronic::drums::rim` meets its contract: each call by what it ensures. Assumes nothing.
use Rattle.kit_parts.proofs.Generator.{at_state}
use Rattle.kit_electronic.specs.Drums.{electronic_rim}
use Rattle.kit_electronic.proofs.drums.rim.Goals as goal

pub returns : goal.returns
unfolding electronic_rim
returns c =
    rw (c.exp-3.ensures, at_state c.bi-w.ensures.1, c.bi-w.ensures.0, c.exp-2.ensures, c.sin-2.ensures, c.exp.ensures, c.sin.ensures)
