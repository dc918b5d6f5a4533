-- `trig::single::cosf` meets its contract. Assumes nothing.
use Rattle.std.proofs.Common.{rules}
use Rattle.trig.proofs.single.cosf.Goals as goal

pub returns : goal.returns
returns c = rw (c.narrow.ensures, c.cos.ensures, c.widen.ensures)
