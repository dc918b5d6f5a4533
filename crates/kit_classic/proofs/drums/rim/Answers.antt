-- `kit_classic::drums::rim` meets its contract: each call by what it ensures. Assumes nothing.
use Rattle.kit_parts.proofs.Generator.{at_state}
use Rattle.kit_classic.specs.Drums.{classic_rim}
use Rattle.kit_classic.proofs.drums.rim.Goals as goal

pub returns : goal.returns
unfolding classic_rim
returns c =
    rw (c.exp-2.ensures, at_state c.bi-w.ensures.1, c.bi-w.ensures.0, c.exp.ensures, c.sin.ensures)
