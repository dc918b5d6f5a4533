-- `score_vectors::replay_line` meets its contract. Assumes nothing.
use Rattle.programs.proofs.Grown.{grows_then}
use Rattle.score_vectors.proofs.replay_line.Goals as goal

pub returns-in_err-print_text : goal.returns-in_err-print_text
returns-in_err-print_text g c = grows_then _ _ _ c.answer_line.ensures c.print_text.ensures.grows

pub returns : goal.returns
returns g c = grows_then _ _ _ c.answer_line.ensures c.print_text.ensures.grows
