-- `det::rounded::rounded_to_i64` meets its contract. Assumes nothing.
use borrow.Author.Rules.{rules}
use Rattle.det.proofs.Casts.{Inner, inner, cast_in, cast_is}
use Rattle.det.proofs.rounded.rounded_to_i64.Goals as goal

pub float_to_int-result : goal.float_to_int-result
float_to_int-result c =
    let near : Inner c.args.k = inner c.args.k c.requires c.if-k.true c.if-k-2.true in
    cast_in c.args.k near

pub returns-then-k-2 : goal.returns-then-k-2
returns-then-k-2 c =
    let near : Inner c.args.k = inner c.args.k c.requires c.if-k.true c.if-k-2.true in
    cast_is c.args.k near
