-- `groove::humanize::pitch_identity` meets its contract. Assumes nothing.
use Rattle.std.proofs.Common.{lt_trans, lit<, rules}
use denote.Floats.{passes}
use lib.Ieee.{binary32}
use lib.Ieee.Bits.{to_bits-lt}
use Rattle.groove.specs.Humanize.{identity_of}
use Rattle.groove.proofs.humanize.pitch_identity.Goals as goal

pub float_to_bits-result : goal.float_to_bits-result
float_to_bits-result c = rw c.in-Const.is at c.requires

pub overflow_cast-result : goal.overflow_cast-result
overflow_cast-result c = record { fits = lt_trans (to_bits-lt binary32 _ (passes _ c.in-Const.known_told-1-own.given.0.1)) (lit< tt) }

pub returns-in-Const : goal.returns-in-Const
unfolding identity_of
returns-in-Const c = rw c.in-Const.is

pub returns-in-Curve : goal.returns-in-Curve
unfolding identity_of
returns-in-Curve c = rw c.in-Curve.is
