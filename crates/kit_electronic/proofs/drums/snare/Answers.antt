-- `kit_electronic::drums::snare` meets its contract: each call by what it ensures. Assumes nothing.
use Rattle.kit_parts.proofs.Generator.{at_state}
use Rattle.kit_electronic.specs.Drums.{electronic_snare}
use Rattle.kit_electronic.proofs.drums.snare.Goals as goal

pub returns : goal.returns
unfolding electronic_snare
returns c =
    rw (c.exp-2.ensures, at_state c.bi-w.ensures.1, c.bi-w.ensures.0, c.gate-gated.ensures, c.exp.ensures, c.sin-2.ensures, c.sin.ensures)
