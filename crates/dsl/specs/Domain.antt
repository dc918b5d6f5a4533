-- What of 01's domain the functions of this repository ask for, and which refusal gives it.
use Rattle.std.specs.Prelude.{ℕ, ◌≤◌, not, T}
use Rattle.std.specs.Float.Ieee.{is_nan}
use Rattle.dsl.specs.declared.pitch.Pitch.{Pitch}
use Rattle.dsl.specs.declared.pitch.Pitch.TheVariants.{Const, Curve}

-- "Rate 8,000 to 192,000": refusal 1
pub record Rate (rate : ℕ) : Type 0 where
  pub least : 8000 ≤ rate
  pub most : rate ≤ 192000

-- "n at most 16,777,216": refusal 2
pub record Frames (n : ℕ) : Type 0 where
  pub most : n ≤ 16777216

-- A constant pitch is a number: refusal 10, a NaN not being sized. (Only a number has bits that are the same everywhere.)
abbrev pub numeric : Pitch → Type 0
numeric (Const x) = T (not (is_nan x))
numeric (Curve offset) = Unit
