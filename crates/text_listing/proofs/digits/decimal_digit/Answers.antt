-- `text_listing::digits::decimal_digit` meets its contract. Assumes nothing.
use Rattle.text_listing.proofs.Numbers.{decimal_digit_is}
use borrow.Author.Rules.{rules}
use Rattle.text_listing.proofs.digits.decimal_digit.Goals as goal

pub returns : goal.returns
returns c = decimal_digit_is c.args.v c.requires
