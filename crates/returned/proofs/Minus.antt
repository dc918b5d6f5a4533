-- Minus a u32 as an i64. Assumes nothing.
use mathlib.Core.Path.{◌≡◌, ap, ◌∙◌}
use Prim.Native.Nat.{ℕ, zero, suc, ◌^◌, ◌<◌}
use native.Mathlib.Omega.{arith}
use borrow.Author.Rules.{sfits_of}
use mir.Facts.{to_z-of_z, to_z_pos}
use mir.Val.{SFits, to_z, of_z}
use mir.Syntax.{w64}
use lib.IntN.{ℤ, pos, neg_ℤ, ◌-ℤ◌, +ℤ_idl}

-- minus a u32 fits, and is no wrapped one
minus_small : (n : ℕ) → n < 2 ^ 32 → SFits w64 (neg_ℤ (pos n))
minus_small zero h = sfits_of (omega arith)
minus_small (suc n) h = sfits_of (omega arith)

minus_is : (n : ℕ) → n < 2 ^ 32 → pos 0 -ℤ to_z w64 n ≡ neg_ℤ (pos n)
minus_is n h = ap (λ (z : ℤ). pos 0 -ℤ z) (to_z_pos w64 {n = n} (omega arith)) ∙ +ℤ_idl (neg_ℤ (pos n))

pub minus_fits : (n : ℕ) → n < 2 ^ 32 → SFits w64 (pos 0 -ℤ to_z w64 n)
minus_fits n h = rw (minus_is n h) (minus_small n h)

pub minus_read : (n : ℕ) → n < 2 ^ 32 → to_z w64 (of_z w64 (pos 0 -ℤ to_z w64 n)) ≡ neg_ℤ (pos n)
minus_read n h = to_z-of_z (minus_fits n h) ∙ minus_is n h
