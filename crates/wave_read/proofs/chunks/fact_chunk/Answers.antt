-- `wave_read::chunks::fact_chunk` meets its contract. Assumes nothing.
use Rattle.wave_read.proofs.Judging.{fact_second, fact_size, fact_met}
use Rattle.wave_read.proofs.chunks.fact_chunk.Goals as goal

pub returns-in-Some : goal.returns-in-Some
returns-in-Some c = λ next. fact_second _ _ c.requires _ _ next _ c.in-Some.is

pub returns-then-size-ne4 : goal.returns-then-size-ne4
returns-then-size-ne4 c = λ next. fact_size _ _ c.requires _ _ next c.in_default.is c.if-size-ne4.true

pub returns : goal.returns
returns c = λ next. fact_met _ _ c.requires _ _ next c.in_default.is c.if-size-ne4.false c.u32_at.ensures
