-- `wave_read::walk::find_samples` meets its contract. Assumes nothing.
use Rattle.wave_read.proofs.Ending.{too_short, not_riff, not_size, not_wave, begun}
use Rattle.wave_read.proofs.walk.find_samples.Goals as goal

pub returns-then-file-lt12 : goal.returns-then-file-lt12
returns-then-file-lt12 c = too_short _ c.if-file-lt12.true

pub returns-then-u32_at-ne-RIFF : goal.returns-then-u32_at-ne-RIFF
returns-then-u32_at-ne-RIFF c = not_riff _ c.if-file-lt12.false c.u32_at.ensures c.if-u32_at-ne-RIFF.true

pub returns-then-u32_at-file : goal.returns-then-u32_at-file
returns-then-u32_at-file c = not_size _ c.if-file-lt12.false c.u32_at.ensures c.if-u32_at-ne-RIFF.false c.u32_at-2.ensures c.if-u32_at-file.true

pub returns-then-u32_at-ne-WAVE : goal.returns-then-u32_at-ne-WAVE
returns-then-u32_at-ne-WAVE c =
    not_wave _ c.if-file-lt12.false c.u32_at.ensures c.if-u32_at-ne-RIFF.false c.u32_at-2.ensures c.if-u32_at-file.false c.u32_at-3.ensures c.if-u32_at-ne-WAVE.true

pub returns : goal.returns
returns c =
    begun _ c.if-file-lt12.false c.u32_at.ensures c.if-u32_at-ne-RIFF.false c.u32_at-2.ensures c.if-u32_at-file.false c.u32_at-3.ensures c.if-u32_at-ne-WAVE.false c.find_data.ensures
