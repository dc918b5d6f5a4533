-- `det::single::tanhf` meets its contract. Assumes nothing.
use borrow.Author.Rules.{rules}
use Rattle.det.proofs.single.tanhf.Goals as goal

pub returns : goal.returns
returns c = rw (c.narrow.ensures, c.tanh.ensures, c.widen.ensures)
