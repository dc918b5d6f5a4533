-- `kit_acoustic::cymbals::ride` meets its contract: each call by what it ensures. Assumes nothing.
use Rattle.kit_parts.proofs.Generator.{at_state}
use Rattle.kit_acoustic.specs.Cymbals.{acoustic_ride}
use Rattle.kit_acoustic.proofs.cymbals.ride.Goals as goal

pub returns : goal.returns
unfolding acoustic_ride
returns c =
    rw (
      c.exp-3.ensures,
      c.sin-3.ensures,
      c.sin-2.ensures,
      c.sin.ensures,
      c.exp-2.ensures,
      c.exp.ensures,
      at_state c.bi-w.ensures.1,
      c.bi-w.ensures.0,
    )
