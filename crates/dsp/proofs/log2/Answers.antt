-- `dsp::log2` meets its contract. Assumes nothing.
use borrow.Author.Rules.{rules}
use Rattle.dsp.proofs.log2.Goals as goal

pub returns : goal.returns
returns c = rw (c.lnf-2.ensures, c.lnf.ensures)
