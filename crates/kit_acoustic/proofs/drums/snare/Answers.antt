-- `kit_acoustic::drums::snare` meets its contract: each call by what it ensures. Assumes nothing.
use Rattle.kit_parts.proofs.Generator.{at_state}
use Rattle.kit_acoustic.specs.Drums.{acoustic_snare}
use Rattle.kit_acoustic.proofs.drums.snare.Goals as goal

pub returns : goal.returns
unfolding acoustic_snare
returns c =
    rw (c.exp-4.ensures, c.exp-3.ensures, c.exp-2.ensures, c.sin-2.ensures, c.exp.ensures, c.sin.ensures, at_state c.bi-w.ensures.1, c.bi-w.ensures.0)
