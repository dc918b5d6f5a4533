-- `kit_electronic::drums::tom` meets its contract: each call by what it ensures. Assumes nothing.
use Rattle.kit_parts.proofs.Generator.{at_state}
use Rattle.kit_electronic.specs.Drums.{electronic_tom}
use Rattle.kit_electronic.proofs.drums.tom.Goals as goal

pub returns : goal.returns
unfolding electronic_tom
returns c =
    rw (
      c.exp-3.ensures,
      at_state c.bi-w.ensures.1,
      c.bi-w.ensures.0,
      c.exp-2.ensures,
      c.tanh.ensures,
      c.sin.ensures,
      c.wrap-phase.ensures,
      c.exp.ensures,
    )
