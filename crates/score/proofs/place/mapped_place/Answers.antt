-- `score::place::mapped_place` meets its contract. Assumes nothing.
use Rattle.score.specs.Score.{mapped_place}
use borrow.Author.Rules.{rules}
use Rattle.score.proofs.place.mapped_place.Goals as goal

pub returns : goal.returns
unfolding mapped_place
returns c = rw (c.sounded_frames.ensures, c.mapped_len-len.ensures, c.groove_note_mapped-mapped.ensures)
