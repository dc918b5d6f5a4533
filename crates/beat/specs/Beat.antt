-- `Beat` of units.rs: "num / den, always normalized (denominator positive, gcd-reduced, zero canonicalized to 0/1)".
use Rattle.std.specs.Prelude.{◌≡◌, ℕ, ◌<◌, ◌≤◌, Bool, ℤ, pos, ◌*ℤ◌, int_lt, unsigned_abs, Float}
use Rattle.std.specs.Int.{◌∣◌}
use Rattle.std.specs.Float.{binary64}
use Rattle.std.specs.Float.Ieee.{of_int}
use Rattle.ieee.specs.Numbers64.{f64}
use Rattle.ieee.specs.Binary64.{◌⧄◌}
use Rattle.beat.specs.declared.beat.Beat.{Beat}

-- "to_f64": num as f64 / den as f64
unfoldable pub beat64 : Beat → Float
beat64 b = of_int binary64 b.num ⧄ f64 b.den

-- "Beat::new": the fraction num / den, whose denominator is positive, and whose terms are no larger and have no common divisor but 1. Zero is 0 / 1, since every number divides 0.
pub record Reduced (num : ℤ) (den : ℕ) (b : Beat) : Type 0 where
  pub same : b.num *ℤ pos den ≡ num *ℤ pos b.den
  pub positive : 0 < b.den
  pub num_most : unsigned_abs b.num ≤ unsigned_abs num
  pub den_most : b.den ≤ den
  pub lowest : (d : ℕ) → d ∣ unsigned_abs b.num → d ∣ b.den → d ≡ 1

-- "Cross-multiply .. Both denominators are positive, so the products compare the same way"
unfoldable pub lt_beat : Beat → Beat → Bool
lt_beat a b = int_lt (a.num *ℤ pos b.den) (b.num *ℤ pos a.den)
