-- `kit_808::drums::snare` meets its contract: each call by what it ensures. Assumes nothing.
use Rattle.kit_parts.proofs.Generator.{at_state}
use Rattle.kit_808.specs.Drums.{eight08_snare}
use Rattle.kit_808.proofs.drums.snare.Goals as goal

pub returns : goal.returns
unfolding eight08_snare
returns c =
    rw (c.exp-2.ensures, at_state c.bi-w.ensures.1, c.bi-w.ensures.0, c.exp.ensures, c.sin-2.ensures, c.sin.ensures)
