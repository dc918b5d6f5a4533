-- `dsl::pitch::Reading::new` meets its contract. Assumes nothing.
use mathlib.Core.Path.{refl}
use borrow.Author.Rules.{rules}
use Rattle.dsl.proofs.pitch.Reading.new.Goals as goal

pub returns : goal.returns
returns c = refl
