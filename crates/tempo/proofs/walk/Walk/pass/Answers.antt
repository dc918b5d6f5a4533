-- `tempo::walk::Walk::pass` meets its contract. Assumes nothing.
use Rattle.std.proofs.Common.{add-one, rules}
use Rattle.tempo.proofs.walk.Walk.pass.Goals as goal

pub returns : goal.returns
returns c = rw (add-one, c.floor_bpm.ensures, c.seconds.ensures)
