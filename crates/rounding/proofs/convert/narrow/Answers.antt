-- `rounding::convert::narrow` meets its contract: a NaN, the normal range, and the plain way for the rest. Assumes nothing.
use Rattle.std.proofs.Common.{sym, ap, ◌∙◌, rules}
use denote.Floats.{passes}
use Rattle.ieee.specs.Narrow.{narrow_of}
use Rattle.ieee.proofs.Nans.{is_nan_lem, no_nan, nan_made}
use Rattle.rounding.proofs.Normal.{sign_magnitude}
use Rattle.rounding.proofs.convert.narrow.Goals as goal

pub returns-then-x : goal.returns-then-x
unfolding narrow_of
returns-then-x c = nan_made ∙ ap narrow_of (sym (is_nan_lem c.args.x c.if-x.true))

pub float_to_bits-bits : goal.float_to_bits-bits
float_to_bits-bits c = no_nan c.args.x c.if-x.false

pub returns-then-magnitude-ge4039728865751334912 : goal.returns-then-magnitude-ge4039728865751334912
returns-then-magnitude-ge4039728865751334912 c = c.narrow_normal.ensures ∙ ap narrow_of (sign_magnitude c.args.x (passes _ c.well_formed.0.1))

pub narrow_fields-requires : goal.narrow_fields-requires
narrow_fields-requires c = no_nan c.args.x c.if-x.false
