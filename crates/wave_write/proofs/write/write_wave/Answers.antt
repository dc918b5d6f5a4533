-- `wave_write::write::write_wave` meets its contract. Assumes nothing.
use Rattle.wave_file.specs.declared.refusal.FileRefusal.TheVariants.{Rate, Frames, Room}
use Rattle.wave_write.proofs.Writing.{rate_low, rate_high, many, short, whole, wrote_nothing, wrote_file}
use borrow.Author.Rules.{rules}
use Rattle.wave_write.proofs.write.write_wave.Goals as goal

pub returns-then-rate-lt8000 : goal.returns-then-rate-lt8000
returns-then-rate-lt8000 c = wrote_nothing Rate (rate_low _ _ _ c.if-rate-lt8000.true)

pub returns-then-rate-gt192000 : goal.returns-then-rate-gt192000
returns-then-rate-gt192000 c = wrote_nothing Rate (rate_high _ _ _ c.if-rate-lt8000.false c.if-rate-gt192000.true)

pub returns-then-samples-gt16777216 : goal.returns-then-samples-gt16777216
returns-then-samples-gt16777216 c = wrote_nothing Frames (many _ _ _ c.if-rate-lt8000.false c.if-rate-gt192000.false c.if-samples-gt16777216.true)

pub returns-then-file-length : goal.returns-then-file-length
returns-then-file-length c = wrote_nothing Room (short _ _ _ c.if-rate-lt8000.false c.if-rate-gt192000.false c.if-samples-gt16777216.false c.if-file-length.true)

pub returns : goal.returns
returns c =
    wrote_file (whole _ _ _ c.if-rate-lt8000.false c.if-rate-gt192000.false c.if-samples-gt16777216.false c.if-file-length.false) c.put_file.ensures
