-- `det::single::expf` meets its contract. Assumes nothing.
use borrow.Author.Rules.{rules}
use Rattle.det.proofs.single.expf.Goals as goal

pub returns : goal.returns
returns c = rw (c.narrow_positive.ensures, c.exp.ensures, c.widen.ensures)
