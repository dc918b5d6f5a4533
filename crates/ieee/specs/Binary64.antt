-- The operators of an `f64`, as a definition writes them: each rounds its exact result to binary64, to nearest with ties to even.
use Rattle.std.specs.Float.Ieee as Ieee
use Rattle.std.specs.Prelude.{Float}
use Rattle.std.specs.Float.{binary64}

infixl 60 ◌⊞◌ ◌⊟◌
infixl 70 ◌⊠◌ ◌⧄◌
abbrev pub ◌⊞◌ : Float → Float → Float
x ⊞ y = Ieee.add binary64 x y

abbrev pub ◌⊟◌ : Float → Float → Float
x ⊟ y = Ieee.sub binary64 x y

abbrev pub ◌⊠◌ : Float → Float → Float
x ⊠ y = Ieee.mul binary64 x y

abbrev pub ◌⧄◌ : Float → Float → Float
x ⧄ y = Ieee.div binary64 x y
