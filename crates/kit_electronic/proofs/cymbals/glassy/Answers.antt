-- `kit_electronic::cymbals::glassy` meets its contract: each call by what it ensures. Assumes nothing.
use Rattle.kit_parts.proofs.Generator.{at_state}
use Rattle.kit_electronic.specs.Cymbals.{electronic_glassy}
use Rattle.kit_electronic.proofs.cymbals.glassy.Goals as goal

pub returns : goal.returns
unfolding electronic_glassy
returns c =
    rw (c.exp-2.ensures, c.sin-2.ensures, c.sin.ensures, c.exp.ensures, at_state c.bi-w.ensures.1, c.bi-w.ensures.0)
