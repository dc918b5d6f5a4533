-- `kit_classic::drums::tom` meets its contract: each call by what it ensures. Assumes nothing.
use Rattle.kit_parts.proofs.Generator.{at_state}
use Rattle.kit_classic.specs.Drums.{classic_tom}
use Rattle.kit_classic.proofs.drums.tom.Goals as goal

pub returns : goal.returns
unfolding classic_tom
returns c =
    rw (c.exp-2.ensures, c.exp.ensures, c.sin.ensures, at_state c.bi-w.ensures.1, c.bi-w.ensures.0, c.wrap-phase.ensures, c.min_f32.ensures)
