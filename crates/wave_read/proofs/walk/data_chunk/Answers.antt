-- `wave_read::walk::data_chunk` meets its contract. Assumes nothing.
use Rattle.wave_read.proofs.Walking.{no_rate, no_count, unlike_fact, like_fact}
use Rattle.wave_read.proofs.walk.data_chunk.Goals as goal

pub returns-in_default : goal.returns-in_default
returns-in_default c = no_rate _ c.args.at c.in_default.is _

pub returns-in_default-count : goal.returns-in_default-count
returns-in_default-count c = no_count _ c.args.at _ c.in-Some.is c.in_default-count.is

pub returns-then-size-count : goal.returns-then-size-count
returns-then-size-count c =
    unlike_fact _ c.args.at _ c.in-Some.is _ c.in-Some-count.is c.u32_at-size.ensures c.if-size-count.true

pub returns : goal.returns
returns c =
    like_fact _ c.args.at _ c.in-Some.is _ c.in-Some-count.is c.u32_at-size.ensures c.if-size-count.false c.requires
