-- The loops of `text_listing::lines::put_lines`.
use borrow.Author.Rules.{rules}
use Prim.Native.Nat.{◌-◌}
use mathlib.Core.Path.{refl}
use lib.ListN.{length, get_or}
use Rattle.text_listing.proofs.Listings.{lines_room, Listed, listed_none, line_room, listed_more, listed_all}
use Rattle.text_listing.proofs.lines.put_lines.Given as goal

abbrev pub invariant-loop-i : goal.invariant-loop-i
invariant-loop-i l = Listed (λ k. get_or l.bits k 0) (length l.bits) 0 l.initial.out l.i l.at l.out
