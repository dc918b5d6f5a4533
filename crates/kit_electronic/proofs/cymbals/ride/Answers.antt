-- `kit_electronic::cymbals::ride` meets its contract: each call by what it ensures. Assumes nothing.
use Rattle.kit_parts.proofs.Generator.{at_state}
use Rattle.kit_electronic.specs.Cymbals.{electronic_ride}
use Rattle.kit_electronic.proofs.cymbals.ride.Goals as goal

pub returns : goal.returns
unfolding electronic_ride
returns c =
    rw (c.exp-3.ensures, c.exp-2.ensures, c.sin-2.ensures, c.exp.ensures, c.sin.ensures, at_state c.bi-w.ensures.1, c.bi-w.ensures.0)
