-- `text_read::text::TextScore::seq` meets its contract. Assumes nothing.
use borrow.Author.Rules.{rules}
use Rattle.text_read.proofs.text.TextScore.seq.Goals as goal

pub returns : goal.returns
returns c = rw c.none.ensures
