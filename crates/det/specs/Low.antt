-- Where the exponential is done without a branch: not far from 0 on either side, and with x / ln 2 not half-way between whole numbers.
use Rattle.std.specs.Prelude.{◌≡◌, true, Float}
use Rattle.std.specs.Float.{binary64}
use Rattle.std.specs.Float.Ieee.{of_bits, lt, neg}
use Rattle.ieee.specs.Binary64.{◌⊞◌, ◌⊟◌, ◌⊠◌}
use Rattle.ieee.specs.Numbers64.{d0, d0·5, d2^52}
use Rattle.det.specs.Exp.{INV·LN2}

-- 1000.0
abbrev pub d1000 : Float
d1000 = of_bits binary64 0x408f_4000_0000_0000

-- the whole number nearest to a is its sum with 2^52, less 2^52
pub record Summed (a : Float) : Type 0 where
  pub positive : lt d0 a ≡ true
  pub below : lt a d1000 ≡ true
  pub near : lt a (a ⊞ d2^52 ⊟ d2^52 ⊞ d0·5) ≡ true

-- -x / ln 2
abbrev pub quotient : Float → Float
quotient x = neg (x ⊠ INV·LN2)

-- below 0
abbrev pub Low : Float → Type 0
Low x = Summed (quotient x)

-- above 0
abbrev pub High : Float → Type 0
High x = Summed (x ⊠ INV·LN2)
