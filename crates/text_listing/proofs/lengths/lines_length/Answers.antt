-- `text_listing::lengths::lines_length` meets its contract. Assumes nothing.
use native.Mathlib.Omega.{arith}
use Rattle.text_listing.proofs.Listings.{lines_exact}
use Rattle.text_listing.proofs.lengths.lines_length.Goals as goal

pub overflow_add-result : goal.overflow_add-result
overflow_add-result c = record { fits = omega (arith, c.saturating_sub.ensures, c.requires) }

pub overflow_add-result-2 : goal.overflow_add-result-2
overflow_add-result-2 c = record { fits = omega (arith, c.saturating_sub.ensures, c.saturating_sub-2.ensures, c.requires) }

pub overflow_add-result-3 : goal.overflow_add-result-3
overflow_add-result-3 c = record { fits = omega (arith, c.saturating_sub.ensures, c.saturating_sub-2.ensures, c.saturating_sub-3.ensures, c.requires) }

pub returns : goal.returns
returns c = rw (c.saturating_sub.ensures, c.saturating_sub-2.ensures, c.saturating_sub-3.ensures) (lines_exact c.args.n c.requires)
