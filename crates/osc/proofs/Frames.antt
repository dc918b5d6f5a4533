-- The number of a frame as an i32. Assumes nothing.
use mathlib.Core.Path.{◌≡◌}
use Prim.Native.Nat.{ℕ}
use native.Mathlib.Omega.{arith}
use lib.IntN.{pos}
use mir.Syntax.{w32}
use mir.Val.{to_z}
use mir.Facts.{to_z-of_z}
use Rattle.dsl.specs.Domain.{Frames}

pub frame_number : (n : ℕ) → Frames n → to_z w32 n ≡ pos n
frame_number n h = to_z-of_z {w = w32} (record { sfits = omega (arith, h.most) })
