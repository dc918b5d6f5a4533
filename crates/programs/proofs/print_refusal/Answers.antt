-- `programs::print_refusal` meets its contract. Assumes nothing.
use Rattle.std.proofs.Common.{◌≡◌, rules, arith, sym}
use lib.Dec.{lit≤}
use lib.Seq.{length-take-le}
use Rattle.text_listing.proofs.Put.{printed_text, printed_fits}
use Rattle.text_listing.proofs.Listings.{refusal_room}
use Rattle.programs.proofs.print_refusal.Goals as goal

pub put_refusal-length-requires : goal.put_refusal-length-requires
put_refusal-length-requires g c = refusal_room c.args.number (omega (arith, c.ranges.number.fits)) (lit≤ tt)

pub slice_bounds-line-end : goal.slice_bounds-line-end
slice_bounds-line-end g c = printed_fits c.put_refusal-length.ensures

pub slice_bounds-print_all-end : goal.slice_bounds-print_all-end
slice_bounds-print_all-end g c = sym (length-take-le _ _ (printed_fits c.put_refusal-length.ensures))

pub returns-clause-all : goal.returns-clause-all
returns-clause-all g c = rw (printed_text c.put_refusal-length.ensures) at c.print_all.ensures.all

pub returns-clause-part : goal.returns-clause-part
returns-clause-part g c = rw (printed_text c.put_refusal-length.ensures) at c.print_all.ensures.part
