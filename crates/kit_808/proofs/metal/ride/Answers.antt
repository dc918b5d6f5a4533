-- `kit_808::metal::ride` meets its contract: each call by what it ensures. Assumes nothing.
use Rattle.kit_parts.proofs.Generator.{at_state}
use Rattle.kit_808.specs.Metal.{eight08_ride}
use Rattle.kit_808.proofs.metal.ride.Goals as goal

pub returns : goal.returns
unfolding eight08_ride
returns c =
    rw (c.exp-2.ensures, c.exp.ensures, c.sin.ensures, c.metal_808.ensures, at_state c.bi-w.ensures.1, c.bi-w.ensures.0)
