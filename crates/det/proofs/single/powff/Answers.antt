-- `det::single::powff` meets its contract. Assumes nothing.
use borrow.Author.Rules.{rules}
use Rattle.det.proofs.single.powff.Goals as goal

pub returns : goal.returns
returns c = rw (c.narrow.ensures, c.powf.ensures, c.widen-2.ensures, c.widen.ensures)
