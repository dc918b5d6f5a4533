-- A float that is at most a whole number, rounded to a whole number and cut to an integer. Assumes nothing.
use Prim.Native.Nat.{ℕ, suc, ◌+◌, ◌-◌, ◌*◌, ◌/◌, ◌^◌, ◌≤◌, ◌<◌, min, zero-le}
use native.Mathlib.Nat.{le_trans, mul-pos}
use native.Mathlib.Omega.{arith}
use mathlib.Core.Bool.{true, false, false≢true}
use lib.IntN.{pos, negsuc}
use lib.Pow.{pow_pos}
use lib.Ieee.{Float, nan, inf, fin, up, down, to_unsigned}
use lib.Ieee.Fits.{down_pos}
use lib.Ieee.Exact.{HasValue}
use lib.Ieee.Nearest.{div_mono}
use Rattle.ieee.specs.Whole.{whole, half_up, exactly}
use Rattle.ieee.proofs.Exactly.{exactly_value}
use Rattle.ieee.proofs.Bounds.{AtMost, value_at_most}

half_up_le : (m c b : ℕ) → 0 < c → m ≤ b * c → half_up m c ≤ b
half_up_le m c b C h = le_trans (div_mono (m * 2 + c) (c * 2) (b * 2 + 1) 2 (mul-pos C (omega arith)) (omega arith) (bounded m c b h)) (omega arith)
  where
    bounded : (m c b : ℕ) → m ≤ b * c → (m * 2 + c) * 2 ≤ (b * 2 + 1) * (c * 2)
    bounded m c b h = omega arith

pub rounded_at_most : (x : Float) (b : ℕ) → AtMost x b 1 → AtMost (whole half_up x) b 1
unfolding whole
rounded_at_most nan b u = u
rounded_at_most (inf true) b u = u
rounded_at_most (inf false) b u = u
rounded_at_most (fin true m (pos k)) b u = u
rounded_at_most (fin true m (negsuc k)) b u = signed (exactly true (half_up m (2 ^ suc k)) 0) (half_up m (2 ^ suc k)) (exactly_value true (half_up m (2 ^ suc k)) 0)
  where
    signed : (x : Float) (q : ℕ) → HasValue x true q (2 ^ 0) → AtMost x b 1
    signed nan q v = v
    signed (inf s) q v = absurd v
    signed (fin true m e) q v = tt
    signed (fin false m e) q v = absurd (false≢true v.0)
rounded_at_most (fin false m (pos k)) b u = u
rounded_at_most (fin false m (negsuc k)) b u =
    let q = half_up m (2 ^ suc k) in
    value_at_most (exactly false q 0) q (2 ^ 0) b 1 (pow_pos 0) (exactly_value false q 0) (omega (arith, half_up_le m (2 ^ suc k) b (pow_pos (suc k)) (omega arith)))

pub cut_at_most : (w : ℕ) (x : Float) (b : ℕ) → AtMost x b 1 → to_unsigned w x ≤ b
unfolding to_unsigned
cut_at_most w nan b u = absurd u
cut_at_most w (inf true) b u = zero-le
cut_at_most w (inf false) b u = absurd u
cut_at_most w (fin true m e) b u = zero-le
cut_at_most w (fin false m e) b u = capped (m * up e / down e) (2 ^ w - 1) b (le_trans (div_mono (m * up e) (down e) b 1 (down_pos e) (omega arith) u) (omega arith))
  where
    capped : (k c b : ℕ) → k ≤ b → min k c ≤ b
    capped k c b h = omega arith
