-- `board::queue::Queue::fill` meets its contract. Assumes nothing.
use Rattle.board.proofs.Ring.{fill_below, fill_above}
use Rattle.board.proofs.queue.Queue.fill.Goals as goal

pub returns-then-self-lt64 : goal.returns-then-self-lt64
returns-then-self-lt64 c = fill_below c.args.self c.if-self-lt64.true

pub returns-else-self-lt64 : goal.returns-else-self-lt64
returns-else-self-lt64 c = fill_above c.args.self c.if-self-lt64.false
