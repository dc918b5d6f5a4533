-- `wave_read::chunks::fmt_chunk` meets its contract. Assumes nothing.
use Rattle.wave_read.proofs.Judging.{fmt_second, fmt_size, fmt_tag, fmt_channels, fmt_width, fmt_met}
use Rattle.wave_read.proofs.chunks.fmt_chunk.Goals as goal

pub returns-in-Some : goal.returns-in-Some
returns-in-Some c = λ next. fmt_second _ _ c.requires _ _ next _ c.in-Some.is

pub returns-then-size-ne18 : goal.returns-then-size-ne18
returns-then-size-ne18 c = λ next. fmt_size _ _ c.requires _ _ next c.in_default.is c.if-size-ne18.true

pub returns-then-u16_at-ne3 : goal.returns-then-u16_at-ne3
returns-then-u16_at-ne3 c =
    λ next. fmt_tag _ _ c.requires _ _ next c.in_default.is c.if-size-ne18.false c.u16_at.ensures.0 c.if-u16_at-ne3.true

pub returns-then-u16_at-ne1 : goal.returns-then-u16_at-ne1
returns-then-u16_at-ne1 c =
    λ next. fmt_channels _ _ c.requires _ _ next c.in_default.is c.if-size-ne18.false c.u16_at.ensures.0 c.if-u16_at-ne3.false c.u16_at-2.ensures.0 c.if-u16_at-ne1.true

pub returns-then-u16_at-ne32 : goal.returns-then-u16_at-ne32
returns-then-u16_at-ne32 c =
    λ next.
    fmt_width _ _ c.requires _ _ next c.in_default.is c.if-size-ne18.false c.u16_at.ensures.0 c.if-u16_at-ne3.false
    c.u16_at-2.ensures.0 c.if-u16_at-ne1.false c.u16_at-3.ensures.0 c.if-u16_at-ne32.true

pub returns : goal.returns
returns c =
    λ next.
    fmt_met _ _ c.requires _ _ next c.in_default.is c.if-size-ne18.false c.u16_at.ensures.0 c.if-u16_at-ne3.false
    c.u16_at-2.ensures.0 c.if-u16_at-ne1.false c.u16_at-3.ensures.0 c.if-u16_at-ne32.false c.u32_at.ensures
