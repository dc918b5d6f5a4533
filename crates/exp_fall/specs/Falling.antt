-- Where the exponential of an f32 is done without a test of its value: above -80, below 0, and with x / ln 2 not half-way between whole numbers.
use Rattle.std.specs.Prelude.{◌≡◌, true, Float}
use Rattle.std.specs.Float.Ieee.{lt, neg}
use Rattle.ieee.specs.Binary64.{◌⊞◌, ◌⊟◌}
use Rattle.ieee.specs.Numbers.{c80}
use Rattle.ieee.specs.Numbers64.{d0, d0·5, d2^52}
use Rattle.det.specs.Low.{quotient}

pub record Falling (x : Float) : Type 0 where
  pub above : lt (neg x) c80 ≡ true
  pub positive : lt d0 (quotient x) ≡ true
  pub near : lt (quotient x) (quotient x ⊞ d2^52 ⊟ d2^52 ⊞ d0·5) ≡ true
