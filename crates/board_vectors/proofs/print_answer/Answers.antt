-- `board_vectors::print_answer` meets its contract. Assumes nothing.
use Rattle.programs.proofs.Grown.{grows_then}
use Rattle.board_vectors.proofs.print_answer.Goals as goal

pub returns-in_err-print_u64-2 : goal.returns-in_err-print_u64-2
returns-in_err-print_u64-2 g c = grows_then _ _ _ c.print_u64.ensures.grows c.print_u64-2.ensures.grows

pub returns : goal.returns
returns g c = grows_then _ _ _ (grows_then _ _ _ c.print_u64.ensures.grows c.print_u64-2.ensures.grows) c.print_text.ensures.grows
