-- `text_listing::lines::put_lines` meets its contract. The loop's invariant is `Listed`. Assumes nothing.
use borrow.Author.Rules.{rules}
use Prim.Native.Nat.{◌-◌}
use mathlib.Core.Path.{refl}
use lib.ListN.{length, get_or}
use Rattle.text_listing.proofs.Listings.{lines_room, Listed, listed_none, line_room, listed_more, listed_all}
use Rattle.text_listing.proofs.lines.put_lines.Goals as goal

pub loop-i-init : goal.loop-i-init
loop-i-init c = listed_none (lines_room _ c.requires)

pub put_frame-at-requires : goal.put_frame-at-requires
put_frame-at-requires c = line_room c.loop-i.invariant c.loop-i-test.true _

pub loop-i-preserved : goal.loop-i-preserved
loop-i-preserved c =
    listed_more c.loop-i.invariant c.loop-i-test.true _ refl c.put_frame-at.auto.out c.put_frame-at.ensures

pub shape_of-out : goal.shape_of-out
shape_of-out c = c.loop-i.invariant.same

pub returns : goal.returns
returns c = listed_all c.loop-i.invariant c.loop-i-test.false
