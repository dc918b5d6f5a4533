-- `kit_808::metal::square` meets its contract: each call by what it ensures. Assumes nothing.
use Rattle.kit_808.specs.Metal.{square_of}
use Rattle.kit_808.proofs.metal.square.Goals as goal

pub returns : goal.returns
unfolding square_of
returns c = rw (c.signum_f32.ensures, c.sin.ensures)
