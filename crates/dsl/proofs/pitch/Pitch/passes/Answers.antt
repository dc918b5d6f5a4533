-- `dsl::pitch::Pitch::passes` meets its contract. Assumes nothing.
use Rattle.dsl.proofs.Reach.{too_long, too_far}
use borrow.Author.Rules.{rules}
use Rattle.dsl.proofs.pitch.Pitch.passes.Goals as goal

pub returns-then-last-lane : goal.returns-then-last-lane
returns-then-last-lane c = rw c.in-Curve.is (too_long _ _ _ _ c.if-last-lane.true)

pub returns-else-last-lane : goal.returns-else-last-lane
returns-else-last-lane c = rw c.in-Curve.is (too_far _ _ _ _ c.if-last-lane.false)
