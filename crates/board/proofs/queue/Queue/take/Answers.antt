-- `board::queue::Queue::take` meets its contract. Assumes nothing.
use Prim.Native.Nat.{◌<◌}
use borrow.Author.Rules.{rules}
use Rattle.board.proofs.Ring.{taken_is}
use Rattle.board.proofs.queue.Queue.take.Goals as goal

pub returns : goal.returns
returns c =
    let f = c.fill-fill in
    let fill : 0 < f.result = search rules in
    taken_is c.args.self f.result f.ensures c.place-first.result c.place.result c.place-first.ensures c.place.ensures fill
