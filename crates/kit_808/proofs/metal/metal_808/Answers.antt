-- `kit_808::metal::metal_808` meets its contract: each call by what it ensures. Assumes nothing.
use Rattle.kit_808.specs.Metal.{metal_of}
use Rattle.kit_808.proofs.metal.metal_808.Goals as goal

pub returns : goal.returns
unfolding metal_of
returns c =
    rw (c.square-6.ensures, c.square-5.ensures, c.square-4.ensures, c.square-3.ensures, c.square-2.ensures, c.square.ensures)
