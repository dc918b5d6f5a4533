-- Which places have no wave. Assumes nothing.
use Prim.Native.Nat.{ℕ, suc, ◌≤◌}
use mathlib.Core.Path.{◌≡◌, sym}
use native.Mathlib.Omega.{arith}
use lib.ListN.{get_or-eq_default}
use Rattle.std.specs.Prelude.{None}
use Rattle.dsl.specs.Wave.{places, wave_at}

pub past : (n k : ℕ) → k ≤ n → (n ≡ k → ⊥) → suc k ≤ n
past n k h d = omega arith

pub none : (n : ℕ) → 18 ≤ n → None ≡ wave_at n
unfolding wave_at
none n h = sym (get_or-eq_default places None h)
