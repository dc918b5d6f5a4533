-- `board::queue::Queue::put` meets its contract. Assumes nothing.
use Prim.Native.Nat.{◌<◌}
use mathlib.Core.Path.{◌≡◌}
use lib.ListN.{length}
use borrow.Author.Rules.{rules}
use Rattle.board.proofs.Ring.{put_is}
use Rattle.board.proofs.queue.Queue.put.Goals as goal

pub returns : goal.returns
returns c =
    let q = c.args.self in
    let f = c.fill-fill in
    let fill : f.result < 64 = search rules in
    let places : length q.places ≡ 64 = search rules in
    put_is q f.result f.ensures c.place-next.result c.args.sample c.place-next.ensures fill places
