-- "halve the right one as often as needed"
use Rattle.std.specs.Prelude.{ℕ, zero, suc, Float}
use Rattle.ieee.specs.Numbers.{c0·5}
use Rattle.ieee.specs.Binary32.{◌⊗◌}

-- x halved so many times, by f32 multiplications
unfoldable pub halves : Float → ℕ → Float
halves x zero = x
halves x (suc k) = halves x k ⊗ c0·5
