-- Narrowing by one sum and one shift of the pattern, with no subtraction that could fall below zero. Assumes nothing.
use mathlib.Core.Path.{◌≡◌, refl, ap, ◌∙◌, subst}
use mathlib.Core.Bool.{Bool, true, false, cond}
use Prim.Native.Nat.{ℕ, ◌+◌, ◌-◌, ◌*◌, ◌/◌, ◌%◌, ◌^◌, ◌≤◌, ◌<◌}
use native.Mathlib.Omega.{arith}
use lib.Dec.{T, leb}
use borrow.Author.Tests.{leb-true, leb-false}
use lib.Ieee.{Float, binary32, binary64, of_bits, to_bits, fits}
use lib.Ieee.Bits.{to_bits-lt}
use Rattle.ieee.specs.Narrow.{narrow_of}
use Rattle.rounding.proofs.Normal.{narrow_normal, sign_magnitude}

-- m is the magnitude less 7 * 2^59
even : (m : ℕ) → (m + 0x3800_0000_0000_0000) / 2 ^ 29 % 2 ≡ m / 2 ^ 29 % 2
even m = go (m / 2 ^ 29) ((m + 0x3800_0000_0000_0000) / 2 ^ 29) (omega arith)
  where
    go : (q p : ℕ) → p ≡ q + 7516192768 → p % 2 ≡ q % 2
    go q p e = omega arith

shifted : (m p : ℕ) → m < 0x7f1_0000_0000_0000 → p < 2 → (m + 0x3800_0000_0000_0000 + 0x4800_0000_0fff_ffff + p) / 2 ^ 29 % 0x4000_0000 ≡ (m + 0xfff_ffff + p) / 2 ^ 29
shifted m p h l = go (m + 0xfff_ffff + p) (m + 0x3800_0000_0000_0000 + 0x4800_0000_0fff_ffff + p) (omega arith) (omega arith)
  where
    cutoff : (q : ℕ) → q < 0x4000_0000 → (q + 17179869184) % 0x4000_0000 ≡ q
    cutoff q h = omega arith

    go : (s w : ℕ) → w ≡ s + 0x8000_0000_0000_0000 → s < 0x7f1_0000_2000_0000 → w / 2 ^ 29 % 0x4000_0000 ≡ s / 2 ^ 29
    go s w e h = let q : w / 2 ^ 29 ≡ s / 2 ^ 29 + 17179869184 = omega arith in ap (λ (n : ℕ). n % 0x4000_0000) q ∙ cutoff (s / 2 ^ 29) (omega arith)

pub cut_is : (M : ℕ) → 0x3810_0000_0000_0000 ≤ M → M < 0x3ff1_0000_0000_0000
    → (M + 0x4800_0000_0fff_ffff + M / 2 ^ 29 % 2) / 2 ^ 29 % 0x4000_0000 ≡ (M - 0x3800_0000_0000_0000 + 0xfff_ffff + (M - 0x3800_0000_0000_0000) / 2 ^ 29 % 2) / 2 ^ 29
cut_is M lo hi = subst (λ (n : ℕ). (n + 0x4800_0000_0fff_ffff + n / 2 ^ 29 % 2) / 2 ^ 29 % 0x4000_0000 ≡ (M - 0x3800_0000_0000_0000 + 0xfff_ffff +
    (M - 0x3800_0000_0000_0000) / 2 ^ 29 % 2) / 2 ^ 29) back (go (M - 0x3800_0000_0000_0000) (omega arith))
  where
    back : M - 0x3800_0000_0000_0000 + 0x3800_0000_0000_0000 ≡ M
    back = omega arith

    two : (q : ℕ) → q % 2 < 2
    two q = omega arith

    go : (m : ℕ) → m < 0x7f1_0000_0000_0000 → (m + 0x3800_0000_0000_0000 + 0x4800_0000_0fff_ffff + (m + 0x3800_0000_0000_0000) / 2 ^ 29 % 2) / 2 ^ 29 % 0x4000_0000 ≡
        (m + 0xfff_ffff + m / 2 ^ 29 % 2) / 2 ^ 29
    go m h = ap (λ (p : ℕ). (m + 0x3800_0000_0000_0000 + 0x4800_0000_0fff_ffff + p) / 2 ^ 29 % 0x4000_0000) (even m) ∙ shifted m (m / 2 ^ 29 % 2) h (two (m / 2 ^ 29))

-- ---- the sign's digit, moved from place 63 to place 31
top : (b : ℕ) → b < 2 ^ 64 → (t : Bool) → leb (2 ^ 63) b ≡ t → b / 2 ^ 63 * 2 ^ 31 % 2 ^ 64 ≡ cond t (2 ^ 31) 0
top b h true e = let l = leb-true (2 ^ 63) b e in (let q : b / 2 ^ 63 ≡ 1 = omega arith in ap (λ (n : ℕ). n * 2 ^ 31 % 2 ^ 64) q)
top b h false e = let l = leb-false (2 ^ 63) b e in (let q : b / 2 ^ 63 ≡ 0 = omega arith in ap (λ (n : ℕ). n * 2 ^ 31 % 2 ^ 64) q)

pub narrowed : (x v : Float) (n : ℕ) → T (fits binary64 v) → (0 < to_bits binary64 v → v ≡ x)
    → 0x3810_0000_0000_0000 ≤ to_bits binary64 v % 2 ^ 63 → to_bits binary64 v % 2 ^ 63 < 0x3ff1_0000_0000_0000
    → n ≡ (to_bits binary64 v % 2 ^ 63 - 0x3800_0000_0000_0000 + 0xfff_ffff + (to_bits binary64 v % 2 ^ 63 - 0x3800_0000_0000_0000) / 2 ^ 29 % 2) / 2 ^ 29
    → of_bits binary32 (to_bits binary64 v / 2 ^ 63 * 2 ^ 31 % 2 ^ 64 + n) ≡ narrow_of x
narrowed x v n fit same lo hi e =
    ap (λ (k : ℕ). of_bits binary32 (k + n)) (top (to_bits binary64 v) (to_bits-lt binary64 v fit) (leb (2 ^ 63) (to_bits binary64 v)) refl)
    ∙ narrow_normal (leb (2 ^ 63) (to_bits binary64 v)) (to_bits binary64 v % 2 ^ 63) lo (less (to_bits binary64 v % 2 ^ 63) hi) n e
    ∙ ap narrow_of (sign_magnitude v fit ∙ same (positive (to_bits binary64 v) lo))
  where
    less : (m : ℕ) → m < 0x3ff1_0000_0000_0000 → m < 0x47f0_0000_0000_0000
    less m h = omega arith

    positive : (b : ℕ) → 0x3810_0000_0000_0000 ≤ b % 2 ^ 63 → 0 < b
    positive b h = omega arith

-- ---- what the pattern asks
pub plain : (b n : ℕ) → b < 2 ^ 64 → n < 2 ^ 30 → (b / 2 ^ 63 * 2 ^ 31 % 2 ^ 64 + n) % 2 ^ 31 ≤ 0x7f80_0000
plain b n h l = go (b / 2 ^ 63) (omega arith)
  where
    go : (s : ℕ) → s < 2 → (s * 2 ^ 31 % 2 ^ 64 + n) % 2 ^ 31 ≤ 0x7f80_0000
    go s g = omega arith
