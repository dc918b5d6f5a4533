-- `kit_acoustic::drums::tom` meets its contract: each call by what it ensures. Assumes nothing.
use Rattle.kit_parts.proofs.Generator.{at_state}
use Rattle.kit_acoustic.specs.Drums.{acoustic_tom}
use Rattle.kit_acoustic.proofs.drums.tom.Goals as goal

pub returns : goal.returns
unfolding acoustic_tom
returns c =
    rw (
      c.exp-3.ensures,
      at_state c.bi-w.ensures.1,
      c.bi-w.ensures.0,
      c.exp-2.ensures,
      c.sin-2.ensures,
      c.exp.ensures,
      c.sin.ensures,
      c.wrap-phase2.ensures,
      c.wrap-phase.ensures,
      c.min_f32.ensures,
    )
