-- `dsl::pitch::Pitch::is_sized` meets its contract. Assumes nothing.
use borrow.Author.Rules.{rules}
use Rattle.dsl.specs.Sized.{pitch_sized}
use Rattle.dsl.proofs.pitch.Pitch.is_sized.Goals as goal

pub returns-in-Const : goal.returns-in-Const
unfolding pitch_sized
returns-in-Const c = rw c.in-Const.is c.is_sized.ensures

pub returns-in-Curve : goal.returns-in-Curve
unfolding pitch_sized
returns-in-Curve c = rw c.in-Curve.is
