-- `kit_classic::cymbals::ride` meets its contract: each call by what it ensures. Assumes nothing.
use Rattle.kit_parts.proofs.Generator.{at_state}
use Rattle.kit_classic.specs.Cymbals.{classic_ride}
use Rattle.kit_classic.proofs.cymbals.ride.Goals as goal

pub returns : goal.returns
unfolding classic_ride
returns c =
    rw (c.exp-2.ensures, c.exp.ensures, c.sin.ensures, at_state c.bi-w.ensures.1, c.bi-w.ensures.0)
