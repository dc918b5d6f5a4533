-- The loops of `score_notes::play_each`.
use Rattle.score.specs.Score.{score_of}
use Rattle.score_notes.proofs.Order.{Playing}
use Rattle.score_notes.proofs.play_each.Given as goal

abbrev pub invariant-loop-k : goal.invariant-loop-k
invariant-loop-k l =
    Playing (score_of l.seq l.notes l.lane l.lent) l.from l.initial.after.0 l.initial.out l.initial.note_buf l.initial.string l.to l.k l.after.0 l.draws l.out l.note_buf l.string
