-- `kit_808::metal::crash` meets its contract: each call by what it ensures. Assumes nothing.
use Rattle.kit_parts.proofs.Generator.{at_state}
use Rattle.kit_808.specs.Metal.{eight08_crash}
use Rattle.kit_808.proofs.metal.crash.Goals as goal

pub returns : goal.returns
unfolding eight08_crash
returns c =
    rw (c.exp.ensures, c.metal_808.ensures, at_state c.bi-w.ensures.1, c.bi-w.ensures.0)
