-- `text_listing::lengths::refusal_length` meets its contract. Assumes nothing.
use native.Mathlib.Omega.{arith}
use Rattle.text_listing.proofs.Numbers.{decimal_length}
use Rattle.text_listing.proofs.Listings.{refusal_exact}
use borrow.Author.Rules.{rules}
use Rattle.text_listing.proofs.lengths.refusal_length.Goals as goal

pub overflow_add-result : goal.overflow_add-result
overflow_add-result c = record { fits = omega (arith, c.decimal_length.ensures, decimal_length 19 c.args.number (omega arith)) }

pub returns : goal.returns
returns c = rw c.decimal_length.ensures (refusal_exact c.args.number)
