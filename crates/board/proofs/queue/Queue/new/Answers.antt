-- `board::queue::Queue::new` meets its contract. Assumes nothing.
use mathlib.Core.Path.{refl}
use Rattle.board.specs.Queue.{waiting, samples_from}
use Rattle.board.proofs.queue.Queue.new.Goals as goal

pub returns : goal.returns
unfolding waiting samples_from
returns c = refl
