-- `score::place::straight_place` meets its contract. Assumes nothing.
use Rattle.score.specs.Score.{straight_place}
use borrow.Author.Rules.{rules}
use Rattle.score.proofs.place.straight_place.Goals as goal

pub returns : goal.returns
unfolding straight_place
returns c = rw (c.sounded_frames.ensures, c.note_len-len.ensures, c.groove_note-groove.ensures, c.step_dur-step_dur.ensures)
