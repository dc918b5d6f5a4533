-- `text_listing::digits::put_byte` meets its contract. Assumes nothing.
use Rattle.text_listing.proofs.Put.{printed_one}
use borrow.Author.Rules.{rules}
use Rattle.text_listing.proofs.digits.put_byte.Goals as goal

pub returns : goal.returns
returns c = printed_one _ _ _ c.requires
