-- `kit_classic::drums::snare` meets its contract: each call by what it ensures. Assumes nothing.
use Rattle.kit_parts.proofs.Generator.{at_state}
use Rattle.kit_classic.specs.Drums.{classic_snare}
use Rattle.kit_classic.proofs.drums.snare.Goals as goal

pub returns : goal.returns
unfolding classic_snare
returns c =
    rw (c.exp-2.ensures, at_state c.bi-w.ensures.1, c.bi-w.ensures.0, c.exp.ensures, c.sin.ensures)
