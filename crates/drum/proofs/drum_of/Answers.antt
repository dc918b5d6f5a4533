-- `drum::drum_of` meets its contract: a number that is not negative is looked up as a u32. Assumes nothing.
use Rattle.drum.proofs.Signed32.{negative, cast, positive}
use Rattle.drum.proofs.drum_of.Goals as goal

pub returns-then-midi-lt0 : goal.returns-then-midi-lt0
returns-then-midi-lt0 c = negative _ c.ranges.midi.sfits c.if-midi-lt0.true

pub overflow_cast-midi : goal.overflow_cast-midi
overflow_cast-midi c = cast c.args.midi c.ranges.midi.sfits c.if-midi-lt0.false

pub returns : goal.returns
returns c = positive _ c.ranges.midi.sfits c.if-midi-lt0.false c.drum_at.ensures
