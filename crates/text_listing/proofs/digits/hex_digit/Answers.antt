-- `text_listing::digits::hex_digit` meets its contract. Assumes nothing.
use Rattle.text_listing.proofs.Numbers.{hex_digit_is}
use borrow.Author.Rules.{rules}
use Rattle.text_listing.proofs.digits.hex_digit.Goals as goal

pub returns : goal.returns
returns c = hex_digit_is c.args.v c.requires
