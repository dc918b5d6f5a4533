-- `voice_piano::hammer::partial_of` meets its contract: each call by what it ensures. Assumes nothing.
use Rattle.std.proofs.Common.{◌^◌, arith, le→leb, rules}
use lib.Ieee.{in_float}
use Rattle.voice_piano.specs.Hammer.{partial_of}
use Rattle.voice_piano.proofs.hammer.partial_of.Goals as goal

pub int_to_float-kf : goal.int_to_float-kf
unfolding in_float
int_to_float-kf c = le→leb c.args.k (2 ^ 24) (omega arith)

pub returns : goal.returns
unfolding partial_of
returns c =
    rw (
      c.fract_f32-2.ensures,
      c.fract_f32.ensures,
      c.one_pole.ensures,
      c.max_f32-decay.ensures,
      c.powf-tilt.ensures,
      c.abs_f32-notch.ensures,
      c.sin.ensures,
    )
