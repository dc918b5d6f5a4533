-- `tempo::walk::begin` meets its contract. Assumes nothing.
use Rattle.tempo.proofs.Walking.{begun_is}
use Rattle.std.proofs.Common.{rules}
use Rattle.tempo.proofs.walk.begin.Goals as goal

pub returns : goal.returns
returns c =
    let m = c.args.map in begun_is m _ c.requires c.floor_bpm.ensures
