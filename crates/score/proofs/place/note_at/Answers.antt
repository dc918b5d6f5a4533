-- `score::place::note_at` meets its contract. Assumes nothing.
use Rattle.score.specs.Score.{note_at}
use borrow.Author.Rules.{rules}
use Rattle.score.proofs.place.note_at.Goals as goal

pub returns : goal.returns
unfolding note_at
returns c = c.decode.ensures
