-- Where the tangent is done without a branch, and how: both ways of tanh share a quotient.
use Rattle.std.specs.Prelude.{◌≡◌, true, cond, Float}
use Rattle.std.specs.Float.Ieee.{lt}
use Rattle.ieee.specs.Binary64.{◌⊞◌, ◌⊟◌, ◌⊠◌, ◌⧄◌}
use Rattle.ieee.specs.Numbers64.{d0, d0·5, d1, d2, d2^52}
use Rattle.det.specs.Exp.{INV·LN2}
use Rattle.det.specs.Tanh.{d20, d0·25, expm1_small, magnitude_of, unit_sign}

-- 2|x|, whose exponential the tangent needs
abbrev pub twice : Float → Float
twice x = d2 ⊠ magnitude_of x

-- |x| is above 0 and below 20, and 2|x| / ln 2 is not half-way between whole numbers
pub record Inner (x : Float) : Type 0 where
  pub above : lt d0 (magnitude_of x) ≡ true
  pub below : lt (magnitude_of x) d20 ≡ true
  pub positive : lt d0 (twice x ⊠ INV·LN2) ≡ true
  pub near : lt (twice x ⊠ INV·LN2) (twice x ⊠ INV·LN2 ⊞ d2^52 ⊟ d2^52 ⊞ d0·5) ≡ true

-- e / (e + 2) below 0.25, e being expm1_small(2|x|), and 2 / (h + 1) elsewhere, h being exp(2|x|)
abbrev pub tangent_quotient : Float → Float → Float
tangent_quotient x h =
    let e = expm1_small (twice x) in
    cond (lt (magnitude_of x) d0·25) e d2 ⧄ cond (lt (magnitude_of x) d0·25) (e ⊞ d2) (h ⊞ d1)

unfoldable pub tangent_of : Float → Float → Float
tangent_of x h = unit_sign x ⊠ cond (lt (magnitude_of x) d0·25) (tangent_quotient x h) (d1 ⊟ tangent_quotient x h)
