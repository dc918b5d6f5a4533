-- `kit_counts::frames_of` meets its contract. Assumes nothing.
use borrow.Author.Rules.{rules}
use Prim.Native.Nat.{ℕ, ◌*◌, ◌^◌, ◌≤◌}
use native.Mathlib.Nat.{mul-le-mul}
use native.Mathlib.Omega.{arith}
use mir.Syntax.{w32}
use mir.Val.{Fits}
use Rattle.kit_counts.proofs.frames_of.Goals as goal

few : (ms rate : ℕ) → ms ≤ 1000 → Fits w32 rate → ms * rate ≤ 1000 * 2 ^ 32
few ms rate h f = let r : rate ≤ 2 ^ 32 = omega (arith, f.fits) in mul-le-mul h r

pub overflow_mul-within : goal.overflow_mul-within
overflow_mul-within c = let h = few c.args.ms c.args.rate c.requires c.ranges.rate in record { fits = omega arith }

pub overflow_add-within : goal.overflow_add-within
overflow_add-within c = let h = few c.args.ms c.args.rate c.requires c.ranges.rate in record { fits = omega arith }
