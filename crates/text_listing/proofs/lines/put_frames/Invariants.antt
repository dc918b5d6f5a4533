-- The loops of `text_listing::lines::put_frames`.
use borrow.Author.Rules.{rules}
use Prim.Native.Nat.{◌-◌}
use lib.ListN.{length, get_or}
use lib.Ieee.{nan}
use Rattle.text_listing.specs.Lines.{frame_bits}
use Rattle.text_listing.proofs.Listings.{Listed, listed_none, line_room, listed_more, listed_all}
use Rattle.text_listing.proofs.lines.put_frames.Given as goal

abbrev pub invariant-loop-i : goal.invariant-loop-i
invariant-loop-i l = Listed (λ k. frame_bits (get_or l.frames k nan)) (length l.frames) l.start l.initial.out l.i l.at l.out
