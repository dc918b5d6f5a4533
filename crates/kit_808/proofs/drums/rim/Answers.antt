-- `kit_808::drums::rim` meets its contract: each call by what it ensures. Assumes nothing.
use Rattle.kit_808.specs.Drums.{eight08_rim}
use Rattle.kit_808.proofs.drums.rim.Goals as goal

pub returns : goal.returns
unfolding eight08_rim
returns c =
    rw (c.rim_snap-snap.ensures.1, c.rim_snap-snap.ensures.0, c.exp.ensures, c.sin.ensures)
