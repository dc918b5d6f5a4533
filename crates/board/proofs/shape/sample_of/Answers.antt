-- `board::shape::sample_of` meets its contract. Assumes nothing.
use Rattle.board.specs.Shape.{sample_of}
use Rattle.board.proofs.shape.sample_of.Goals as goal

pub returns : goal.returns
unfolding sample_of
returns c =
    rw (c.word-4.ensures.value, c.word-3.ensures.value, c.word-2.ensures.value, c.word.ensures.value)
