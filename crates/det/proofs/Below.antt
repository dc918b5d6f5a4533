-- The exponential without a branch is the definition's, for an x of `Low`. Assumes nothing.
use mathlib.Core.Path.{◌≡◌, refl, sym, ap, ◌∙◌}
use mathlib.Core.Bool.{true, false, not, true≢false}
use Prim.Native.Nat.{ℕ, zero, suc, ◌-◌, ◌*◌, ◌/◌, ◌%◌, ◌^◌, ◌≤◌, min}
use native.Mathlib.Nat.{mul-one, mul-div_cancel}
use native.Mathlib.Omega.{arith}
use borrow.Author.Tests.{le-ltb}
use lib.Dec.{T}
use lib.IntN.{pos, neg_ℤ}
use lib.Signed.{le_z}
use lib.Ieee.{Float, nan, inf, fin, binary64, mul, up, down, neg, lt, of_bits, to_bits, to_signed, nan_bits, is_nan, fits}
use lib.Ieee.Fits.{down_pos, mul-fits, neg-fits}
use lib.Ieee.Exact.{HasValue}
use Rattle.laws.proofs.If.{if_false}
use Rattle.ieee.specs.Binary64.{◌⊞◌, ◌⊟◌, ◌⊠◌}
use Rattle.ieee.specs.Numbers64.{d2^52}
use Rattle.ieee.specs.Whole.{half_up, round_of}
use Rattle.ieee.proofs.Nans.{plain_bits}
use Rattle.float.proofs.Signs.{neg_whole}
use Rattle.det.specs.Exp.{INV·LN2, ldexp2_of, less_ln2, exp_near, scaled, exp_from, exp_reduced}
use Rattle.det.specs.Low.{quotient, Low}
use Rattle.det.proofs.Sums as sums

pub low_number : (x : Float) → Low x → T (not (is_nan x))
unfolding is_nan mul neg lt of_bits
low_number nan L = absurd (true≢false (sym L.positive))
low_number (inf s) L = tt
low_number (fin s m e) L = tt

-- ---- the number and the power
negated : (y : Float) (n : ℕ) → n ≤ 1000 → HasValue y false n 1 → to_signed 63 (neg y) ≡ neg_ℤ (pos n)
unfolding neg to_signed
negated (fin true m e) n h v = absurd (true≢false v.0)
negated (fin false m e) n h v =
    ap (λ (q : ℕ). neg_ℤ (pos (min q (2 ^ 63)))) (ap (λ (q : ℕ). q / down e) (sym (mul-one (m * up e)) ∙ v.1) ∙ mul-div_cancel n (down_pos e))
    ∙ ap (λ (q : ℕ). neg_ℤ (pos q)) (least n h)
  where
    least : (n : ℕ) → n ≤ 1000 → min n (2 ^ 63) ≡ n
    least n h = omega arith
negated nan n h v = elim v [ ]
negated (inf _) n h v = elim v [ ]

pub power_low : (n : ℕ) → n ≤ 1000 → of_bits binary64 ((1023 - n) * 2 ^ 52) ≡ ldexp2_of (neg_ℤ (pos n))
unfolding ldexp2_of
power_low zero h = refl
power_low (suc m) h =
    let a : m ≤ 1021 = omega arith in
    let b : suc m ≤ 1023 = omega arith in
    rw (le-ltb 1021 m a, le-ltb 1023 (suc m) b)

-- no power from -1000 to 0 goes by two factors
pub one_factor : (n : ℕ) → le_z (pos 1024) (neg_ℤ (pos n)) ≡ false
one_factor zero = refl
one_factor (suc m) = refl

module _ (x : Float) (L : Low x) where
  abbrev a : Float
  a = quotient x

  fit : T (fits binary64 a)
  fit = neg-fits binary64 (x ⊠ INV·LN2) (mul-fits binary64 x INV·LN2)

  abbrev n : ℕ
  n = sums.n a fit L

  n_most : n ≤ 1000
  n_most = sums.n_most a fit L

  k_is : neg (a ⊞ d2^52 ⊟ d2^52) ≡ round_of (x ⊠ INV·LN2)
  k_is = ap neg (sums.rounded a fit L) ∙ neg_whole half_up (x ⊠ INV·LN2)

  power_bits : 0x3ff0_0000_0000_0000 - to_bits binary64 (a ⊞ d2^52) * 2 ^ 52 % 2 ^ 64 ≡ (1023 - n) * 2 ^ 52
  power_bits = ap (λ (b : ℕ). 0x3ff0_0000_0000_0000 - b) (sums.field a fit L) ∙ times n n_most
    where
      times : (n : ℕ) → n ≤ 1000 → 0x3ff0_0000_0000_0000 - n * 2 ^ 52 ≡ (1023 - n) * 2 ^ 52
      times n h = omega arith

  k_whole : to_signed 63 (round_of (x ⊠ INV·LN2)) ≡ neg_ℤ (pos n)
  k_whole = ap (to_signed 63) (sym k_is) ∙ negated (a ⊞ d2^52 ⊟ d2^52) n n_most (sums.n_value a fit L)

  power_is : of_bits binary64 (0x3ff0_0000_0000_0000 - to_bits binary64 (a ⊞ d2^52) * 2 ^ 52 % 2 ^ 64) ≡ ldexp2_of (to_signed 63 (round_of (x ⊠ INV·LN2)))
  power_is = ap (of_bits binary64) power_bits ∙ power_low n n_most ∙ ap ldexp2_of (sym k_whole)

  -- what the code asks, and what it computes
  pub s_number : T (not (is_nan (a ⊞ d2^52)))
  s_number = sums.s_number a fit L

  pub s_room : to_bits binary64 (a ⊞ d2^52) * 2 ^ 52 % 2 ^ 64 ≤ 0x3ff0_0000_0000_0000
  s_room = omega (arith, sums.field a fit L, n_most)

  pub power_number : T (not (nan_bits binary64 (0x3ff0_0000_0000_0000 - to_bits binary64 (a ⊞ d2^52) * 2 ^ 52 % 2 ^ 64)))
  power_number = plain_bits binary64 (0x3ff0_0000_0000_0000 - to_bits binary64 (a ⊞ d2^52) * 2 ^ 52 % 2 ^ 64) (low (to_bits binary64 (a ⊞ d2^52) * 2 ^ 52 % 2 ^ 64))
    where
      low : (b : ℕ) → (0x3ff0_0000_0000_0000 - b) % 2 ^ 63 ≤ 0x7ff0_0000_0000_0000
      low b = omega arith

  pub low_is : exp_near (less_ln2 x (neg (a ⊞ d2^52 ⊟ d2^52))) ⊠ of_bits binary64 (0x3ff0_0000_0000_0000 - to_bits binary64 (a ⊞ d2^52) * 2 ^ 52 % 2 ^ 64) ≡ exp_reduced x
  unfolding exp_reduced exp_from scaled
  low_is =
      if_false _ (ap (le_z (pos 1024)) k_whole ∙ one_factor n) (λ i. exp_near (less_ln2 x (k_is i)) ⊠ power_is i)
