-- `dsl::pitch::Pitch::is_curve` meets its contract. Assumes nothing.
use borrow.Author.Rules.{rules}
use Rattle.dsl.specs.Pitch.{is_curve}
use Rattle.dsl.proofs.pitch.Pitch.is_curve.Goals as goal

pub returns-in-Const : goal.returns-in-Const
unfolding is_curve
returns-in-Const c = rw c.in-Const.is

pub returns-in-Curve : goal.returns-in-Curve
unfolding is_curve
returns-in-Curve c = rw c.in-Curve.is
