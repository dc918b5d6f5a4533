-- The square root, correctly rounded: the nearest value of the format to √(num / den), by squares of whole numbers.
use Prim.Native.Nat.{ℕ, zero, suc, ◌+◌, ◌-◌, ◌*◌, ◌/◌, ◌^◌, compare}
use Rattle.std.specs.Prelude.{true, false, cond, leb, Float}
use Rattle.std.specs.Float.{nan, inf, fin, Format, binary32}
use Rattle.std.specs.Float.Ieee.{prec, low, up, down, size, nearest, units}

-- the largest r with r * r ≤ n, by two binary digits of n at a time; d is how many such pairs there are at most
unfoldable pub root_in : ℕ → ℕ → ℕ
root_in zero n = 0
root_in (suc d) n = let r = root_in d (n / 4) * 2 in cond (leb ((r + 1) * (r + 1)) n) (r + 1) r

unfoldable pub root : ℕ → ℕ
unfolding root_in
root n = root_in (size n) n

-- As `round` does with a fraction: √(n / den) is the root in units of the format's smallest value. Of its whole part `prec` digits are kept and k dropped,
-- so it is rounded to q or q + 1 times 2 ^ k units, by how it compares with q + 1 / 2.
unfoldable pub root_round : Format → ℕ → ℕ → Float
unfolding root
root_round f num den =
    let n = num * 2 ^ (low f + low f) in
    let k = size (root (n / den)) - prec f in
    let u = den * 2 ^ (k + k) in
    let q = root (n / u) in
    units f false (nearest q (compare (n * 4) ((q * 2 + 1) * (q * 2 + 1) * u))) k

-- -0 is its own root, and what is below zero has none
unfoldable pub sqrt_of : Float → Float
unfolding root_round
sqrt_of nan = nan
sqrt_of (inf true) = nan
sqrt_of (inf false) = inf false
sqrt_of (fin s zero e) = fin s zero e
sqrt_of (fin true (suc m) e) = nan
sqrt_of (fin false (suc m) e) = root_round binary32 (suc m * up e) (down e)
