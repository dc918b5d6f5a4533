-- `board_vectors::replay_line` meets its contract. Assumes nothing.
use Rattle.programs.proofs.Grown.{grows_then}
use Rattle.board_vectors.proofs.replay_line.Goals as goal

pub returns-then-is_named : goal.returns-then-is_named
returns-then-is_named g c = grows_then _ _ _ c.print_text.ensures.grows c.replay_write.ensures

pub returns-then-is_named-2 : goal.returns-then-is_named-2
returns-then-is_named-2 g c = grows_then _ _ _ c.print_text.ensures.grows c.replay_read.ensures

pub returns-then-is_named-3 : goal.returns-then-is_named-3
returns-then-is_named-3 g c = grows_then _ _ _ c.print_text.ensures.grows c.replay_tick.ensures

pub returns-in_err-print_text-2 : goal.returns-in_err-print_text-2
returns-in_err-print_text-2 g c = grows_then _ _ _ c.print_text.ensures.grows c.print_text-2.ensures.grows

pub returns : goal.returns
returns g c = grows_then _ _ _ c.print_text.ensures.grows c.print_text-2.ensures.grows
