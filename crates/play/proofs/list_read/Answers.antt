-- `play::list_read` meets its contract. Assumes nothing.
use borrow.Author.Rules.{rules}
use Rattle.play.proofs.Listed.{read_listed, written_counts}
use Rattle.play.proofs.list_read.Goals as goal

pub slice_bounds-put_listing-end : goal.slice_bounds-put_listing-end
slice_bounds-put_listing-end c = rw c.count-read.ensures c.requires.prefix_len.1

pub returns : goal.returns
returns c =
    let score = c.args.score.now in
    let reply = c.args.reply.now in
    let listed = c.put_listing in
    let within = c.requires.prefix_len.0 in
    let whole = rw c.count-read.ensures at listed.ensures.value in
    let bytes = rw c.count-read.ensures at listed.ensures.reply_after in
    record {
      read_listed = read_listed score reply _ _ within whole c.requires.in_bounds bytes;
      prefix_len_2 = written_counts score reply _ _ within whole c.requires.in_bounds_2 listed.auto.reply;
    }
