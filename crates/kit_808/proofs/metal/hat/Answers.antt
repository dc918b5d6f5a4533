-- `kit_808::metal::hat` meets its contract: each call by what it ensures. Assumes nothing.
use Rattle.kit_808.specs.Metal.{eight08_hat}
use Rattle.kit_808.proofs.metal.hat.Goals as goal

pub returns : goal.returns
unfolding eight08_hat
returns c = rw (c.exp.ensures, c.metal_808-m.ensures)
