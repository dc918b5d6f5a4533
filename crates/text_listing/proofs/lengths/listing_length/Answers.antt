-- `text_listing::lengths::listing_length` meets its contract. Assumes nothing.
use native.Mathlib.Omega.{arith}
use Rattle.text_listing.proofs.Numbers.{decimal_length}
use Rattle.text_listing.proofs.Listings.{lines_most, listing_exact}
use borrow.Author.Rules.{rules}
use Rattle.text_listing.proofs.lengths.listing_length.Goals as goal

pub overflow_add-result : goal.overflow_add-result
overflow_add-result c = record { fits = omega (arith, c.decimal_length.ensures, decimal_length 19 c.args.draw (omega arith)) }

pub overflow_add-result-2 : goal.overflow_add-result-2
overflow_add-result-2 c =
    record { fits = omega (arith, c.decimal_length.ensures, decimal_length 19 c.args.draw (omega arith), lines_most c.lines_length.ensures c.requires) }

pub returns : goal.returns
returns c = rw c.decimal_length.ensures (listing_exact c.args.draw c.lines_length.ensures)
