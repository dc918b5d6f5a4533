-- The whole numbers of the domain are exact as an `f32`. Assumes nothing.
use Prim.Native.Nat.{ℕ, ◌^◌, ◌≤◌, ◌<◌}
use native.Mathlib.Nat.{le_trans, lt_of_lt_of_le, zero-lt-suc}
use mathlib.Core.Bool.{false}
use lib.Dec.{lit≤}
use lib.Ieee.{binary32, of_int}
use lib.Ieee.Exact.{HasValue}
use lib.Ieee.Back.{round_whole}
use Rattle.ieee.specs.Numbers.{f32}
use Rattle.dsl.specs.Domain.{Rate, Frames}

pub f32_value : (n : ℕ) → n ≤ 2 ^ 24 → HasValue (f32 n) false n 1
unfolding of_int
f32_value n h = round_whole binary32 false n h

pub rate_pos : (rate : ℕ) → Rate rate → 0 < rate
rate_pos rate h = lt_of_lt_of_le (zero-lt-suc 7999) h.least

pub rate_value : (rate : ℕ) → Rate rate → HasValue (f32 rate) false rate 1
rate_value rate h = f32_value rate (le_trans h.most (lit≤ tt))

pub frames_value : (n : ℕ) → Frames n → HasValue (f32 n) false n 1
frames_value n h = f32_value n h.most

-- "Step and len 0 to 1,048,575"
pub step_value : (k : ℕ) → k ≤ 1048575 → HasValue (f32 k) false k 1
step_value k h = f32_value k (le_trans h (lit≤ tt))
