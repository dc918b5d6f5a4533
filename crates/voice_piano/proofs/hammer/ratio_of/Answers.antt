-- `voice_piano::hammer::ratio_of` meets its contract. Assumes nothing.
use Rattle.std.proofs.Common.{◌^◌, arith, le→leb, rules}
use lib.Ieee.{in_float}
use Rattle.voice_piano.specs.Hammer.{ratio_of}
use Rattle.voice_piano.proofs.hammer.ratio_of.Goals as goal

pub int_to_float-kf : goal.int_to_float-kf
unfolding in_float
int_to_float-kf c = le→leb c.args.k (2 ^ 24) (omega arith)

pub returns : goal.returns
unfolding ratio_of
returns c = rw c.sqrt_f32.ensures
