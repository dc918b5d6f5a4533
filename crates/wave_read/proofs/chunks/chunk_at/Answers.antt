-- `wave_read::chunks::chunk_at` meets its contract. Assumes nothing.
use Rattle.wave_read.proofs.Judging.{step_cut, step_past, whole, step_fmt, step_fact, step_data, step_other}
use Rattle.std.proofs.Common.{◌≡◌, Ok, Err, rules}
use Rattle.wave_read.proofs.chunks.chunk_at.Goals as goal

pub returns-then-left-lt8 : goal.returns-then-left-lt8
returns-then-left-lt8 c = step_cut _ _ c.requires _ c.if-left-lt8.true

pub returns-then-left-size : goal.returns-then-left-size
returns-then-left-size c = step_past _ _ c.requires _ c.if-left-lt8.false c.u32_at-size.ensures c.if-left-size.true

pub fmt_chunk-requires : goal.fmt_chunk-requires
fmt_chunk-requires c =
    whole _ _ c.requires c.args.met c.if-left-lt8.false c.u32_at-size.ensures c.if-left-size.false

pub returns-in_err-fmt_chunk : goal.returns-in_err-fmt_chunk
returns-in_err-fmt_chunk c =
    let fault : c.from_residual.result ≡ Err c.in_err-fmt_chunk.field-0.0 = search rules in
    rw fault (step_fmt _ _ c.requires _ c.if-left-lt8.false c.u32_at-size.ensures c.if-left-size.false c.u32_at-name.ensures c.if-name-eq-FMT.true (Err _) c.in_err-fmt_chunk.ensures)

pub returns-then-name-eq-FMT : goal.returns-then-name-eq-FMT
returns-then-name-eq-FMT c =
    step_fmt _ _ c.requires _ c.if-left-lt8.false c.u32_at-size.ensures c.if-left-size.false c.u32_at-name.ensures c.if-name-eq-FMT.true (Ok _) c.in_ok-fmt_chunk.ensures

pub fact_chunk-requires : goal.fact_chunk-requires
fact_chunk-requires c =
    whole _ _ c.requires c.args.met c.if-left-lt8.false c.u32_at-size.ensures c.if-left-size.false

pub returns-in_err-fact_chunk : goal.returns-in_err-fact_chunk
returns-in_err-fact_chunk c =
    let fault : c.from_residual-in_err-fact_chunk.result ≡ Err c.in_err-fact_chunk.field-0.0 = search rules in
    rw fault (step_fact _ _ c.requires _ c.if-left-lt8.false c.u32_at-size.ensures c.if-left-size.false c.u32_at-name.ensures c.if-name-eq-FMT.false c.if-name-eq-FACT.true
    (Err _) c.in_err-fact_chunk.ensures)

pub returns-then-name-eq-FACT : goal.returns-then-name-eq-FACT
returns-then-name-eq-FACT c =
    step_fact _ _ c.requires _ c.if-left-lt8.false c.u32_at-size.ensures c.if-left-size.false c.u32_at-name.ensures c.if-name-eq-FMT.false c.if-name-eq-FACT.true
    (Ok _) c.in_ok-fact_chunk.ensures

pub returns-then-name-eq-DATA : goal.returns-then-name-eq-DATA
returns-then-name-eq-DATA c =
    step_data _ _ c.requires _ c.if-left-lt8.false c.u32_at-size.ensures c.if-left-size.false c.u32_at-name.ensures c.if-name-eq-FMT.false c.if-name-eq-FACT.false c.if-name-eq-DATA.true

pub returns : goal.returns
returns c =
    step_other _ _ c.requires _ c.if-left-lt8.false c.u32_at-size.ensures c.if-left-size.false c.u32_at-name.ensures c.if-name-eq-FMT.false c.if-name-eq-FACT.false c.if-name-eq-DATA.false
