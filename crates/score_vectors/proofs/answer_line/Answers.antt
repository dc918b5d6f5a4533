-- `score_vectors::answer_line` meets its contract. Assumes nothing.
use Rattle.programs.proofs.Grown.{grows_then}
use Rattle.score_vectors.proofs.answer_line.Goals as goal

pub returns-then-is_named : goal.returns-then-is_named
returns-then-is_named g c = grows_then _ _ _ c.print_text.ensures.grows c.open.ensures

pub returns : goal.returns
returns g c = grows_then _ _ _ c.print_text.ensures.grows c.score_line.ensures
