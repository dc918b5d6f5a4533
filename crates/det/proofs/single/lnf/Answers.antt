-- `det::single::lnf` meets its contract. Assumes nothing.
use borrow.Author.Rules.{rules}
use Rattle.det.proofs.single.lnf.Goals as goal

pub returns : goal.returns
returns c = rw (c.narrow.ensures, c.ln.ensures, c.widen.ensures)
