-- `rounding::convert::narrow_positive` meets its contract: the normal range above 0, and `narrow` for the rest. Assumes nothing.
use Rattle.std.proofs.Common.{◌≡◌, ℕ, ◌+◌, ap, ◌∙◌, arith, rules}
use denote.Floats.{passes}
use lib.Ieee.{binary64, of_bits, to_bits}
use lib.Ieee.Bits.{of_bits-to_bits}
use Rattle.ieee.specs.Narrow.{narrow_of}
use Rattle.ieee.proofs.Nans.{no_nan}
use Rattle.rounding.proofs.convert.narrow_positive.Goals as goal

pub float_to_bits-bits : goal.float_to_bits-bits
float_to_bits-bits c = no_nan c.args.x c.if-x.false

-- no sign is added
plain : (n : ℕ) → 0 + n ≡ n
plain n = omega arith

pub returns-then-bits-lt5183643171103440896 : goal.returns-then-bits-lt5183643171103440896
returns-then-bits-lt5183643171103440896 c =
    c.narrow_normal.ensures ∙ ap narrow_of (ap (of_bits binary64) (plain (to_bits binary64 c.args.x)) ∙ of_bits-to_bits binary64 c.args.x (passes _ c.well_formed.0.1))
