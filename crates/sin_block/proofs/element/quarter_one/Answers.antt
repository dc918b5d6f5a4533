-- `sin_block::element::quarter_one` meets its contract. Assumes nothing.
use Rattle.sin_block.proofs.OneSumQuarters.{quartered}
use borrow.Author.Rules.{rules}
use Rattle.sin_block.proofs.element.quarter_one.Goals as goal

pub returns : goal.returns
returns c = (c.unsure-bad.ensures.0, λ e. rw c.whole-value.ensures (quartered c.args.r (c.unsure-bad.ensures.1 e)))
