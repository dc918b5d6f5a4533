-- `kit_acoustic::cymbals::crash` meets its contract: each call by what it ensures. Assumes nothing.
use Rattle.kit_parts.proofs.Generator.{at_state}
use Rattle.kit_acoustic.specs.Cymbals.{acoustic_crash}
use Rattle.kit_acoustic.proofs.cymbals.crash.Goals as goal

pub returns : goal.returns
unfolding acoustic_crash
returns c =
    rw (
      c.exp-3.ensures,
      c.sin-4.ensures,
      c.sin-3.ensures,
      c.sin-2.ensures,
      c.exp-2.ensures,
      c.sin.ensures,
      c.exp.ensures,
      at_state c.bi-w.ensures.1,
      c.bi-w.ensures.0,
    )
