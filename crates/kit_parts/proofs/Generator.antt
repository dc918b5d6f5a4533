-- A generator by its state. Assumes nothing.
use Prim.Native.Nat.{ℕ}
use mathlib.Core.Path.{◌≡◌, ap}
use Rattle.rng.specs.declared.Rng.{Rng}

pub at_state : {r : Rng} {n : ℕ} → r.0 ≡ n → r ≡ record { 0 = n }
at_state e = ap (λ (n : ℕ). record { 0 = n }) e
