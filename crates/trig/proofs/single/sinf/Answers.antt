-- `trig::single::sinf` meets its contract. Assumes nothing.
use Rattle.std.proofs.Common.{rules}
use Rattle.trig.proofs.single.sinf.Goals as goal

pub returns : goal.returns
returns c = rw (c.narrow.ensures, c.sin.ensures, c.widen.ensures)
