-- How IEEE 754-2019 has an exact result rounded (§4.3.1, roundTiesToEven; §5.4.1 has squareRoot rounded so too), for any format. Definitions only.
-- Delivered is the value of the format that is nearest to the exact result; of two that are equally near, the one whose last digit is even;
-- and from 2 ^ emax * (2 - 2 ^ -prec) on, an infinity of the result's sign.
use Rattle.std.specs.Prelude.{◌≡◌, ◌≢◌, Bool, T, Float}
use Prim.Native.Nat.{ℕ, ◌+◌, ◌-◌, ◌*◌, ◌%◌, ◌^◌, ◌<◌, compare, Ordering}
use Rattle.std.specs.Float.{inf, Format}
use Rattle.std.specs.Float.Ieee.{prec, emax, low, fits, to_bits}
use Rattle.std.specs.Float.Ieee.Exact.{HasValue}

-- The exact result without its sign. It may be no fraction (a root), so it is given by how it compares with fractions. The values of a format are whole
-- multiples of the smallest, 2 ^ -low, so the point midway between two of them is a whole multiple of half of that.
-- `v h` is `lt`, `eq` or `gt` as the result is less than, equal to or greater than h such halves.
abbrev pub Magnitude : Type 0
Magnitude = ℕ → Ordering

-- num / den, compared with h / (2 * 2 ^ low)
abbrev pub fraction_at : Format → ℕ → ℕ → Magnitude
fraction_at f num den h = compare (num * 2 ^ low f * 2) (h * den)

-- the square root of num / den, compared with h / (2 * 2 ^ low) by their squares
abbrev pub root_at : Format → ℕ → ℕ → Magnitude
root_at f num den h = compare (num * 2 ^ (low f + low f) * 4) (h * h * den)

-- halves are in their order: v is greater than all that lie before one that it equals, as any number is
abbrev pub Ordered : Magnitude → Type 0
Ordered v = (h i : ℕ) → h < i → v i ≡ Ordering.eq → v h ≡ Ordering.gt

-- 2 ^ emax * (2 - 2 ^ -prec) in such halves: the largest value, and half a unit of its last digit more
abbrev pub limit : Format → ℕ
limit f = (2 ^ (prec f + 1) - 1) * 2 ^ (low f + emax f + 1 - prec f)

-- x is a value of the format f, has the sign s, and is u times the smallest value in size
pub record IsValue (f : Format) (s : Bool) (u : ℕ) (x : Float) : Type 0 where
  pub held : T (fits f x)
  pub is : HasValue x s u (2 ^ low f)

-- r is the value of f nearest to v with the sign s. It is set against every value y of f with that sign, by the point midway between the two: u + b halves.
-- (A value of the other sign is no nearer than the zero of this one.)
pub record Nearest (f : Format) (v : Magnitude) (s : Bool) (r : Float) : Type 0 where
  pub u : ℕ
  pub value : IsValue f s u r
  -- a larger value is not nearer: v is not past the point midway
  pub above : (y : Float) (b : ℕ) → IsValue f s b y → u < b → v (u + b) ≢ Ordering.gt
  -- a smaller value is not nearer: v is not short of the point midway
  pub below : (y : Float) (b : ℕ) → IsValue f s b y → b < u → v (u + b) ≢ Ordering.lt
  -- another value is as near, v being the point midway: r has the even last digit, which is the last bit of its pattern
  pub tie : (y : Float) (b : ℕ) → IsValue f s b y → b ≢ u → v (u + b) ≡ Ordering.eq → to_bits f r % 2 ≡ 0

-- r is v with the sign s, rounded to the format f: an infinity where v is not less than the limit, and otherwise the nearest value
pub record RoundsTo (f : Format) (v : Magnitude) (s : Bool) (r : Float) : Type 0 where
  pub beyond : v (limit f) ≢ Ordering.lt → r ≡ inf s
  pub within : v (limit f) ≡ Ordering.lt → Nearest f v s r
