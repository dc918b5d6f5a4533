-- The greatest common divisor.
use Rattle.std.specs.Prelude.{ℕ}
use Rattle.std.specs.Int.{◌∣◌}

-- g divides both, and whatever divides both divides g
pub record Gcd (x y g : ℕ) : Type 0 where
  pub left : g ∣ x
  pub right : g ∣ y
  pub greatest : (d : ℕ) → d ∣ x → d ∣ y → d ∣ g
