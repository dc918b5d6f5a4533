-- The same for an x of `High`. Assumes nothing.
use mathlib.Core.Path.{◌≡◌, sym, ap, ◌∙◌}
use mathlib.Core.Bool.{false, not}
use Prim.Native.Nat.{ℕ, ◌+◌, ◌*◌, ◌%◌, ◌^◌, ◌≤◌, ◌<◌}
use native.Mathlib.Nat.{lt_of_le_of_lt}
use native.Mathlib.Omega.{arith}
use borrow.Author.Tests.{le-ltb, lt-leb}
use lib.Dec.{T, lit<}
use lib.IntN.{pos}
use lib.Signed.{le_z}
use lib.Ieee.{Float, binary64, of_bits, to_bits, to_signed, nan_bits, is_nan, fits}
use lib.Ieee.Fits.{mul-fits}
use Rattle.laws.proofs.If.{if_false}
use Rattle.ieee.specs.Binary64.{◌⊞◌, ◌⊟◌, ◌⊠◌}
use Rattle.ieee.specs.Numbers64.{d2^52}
use Rattle.ieee.specs.Whole.{round_of}
use Rattle.ieee.proofs.Between.{signed_value}
use Rattle.ieee.proofs.Nans.{plain_bits}
use Rattle.det.specs.Exp.{INV·LN2, ldexp2_of, less_ln2, exp_near, scaled, exp_from, exp_reduced}
use Rattle.det.specs.Low.{High}
use Rattle.det.proofs.Sums as sums

power_high : (n : ℕ) → n ≤ 1000 → of_bits binary64 ((n + 1023) * 2 ^ 52) ≡ ldexp2_of (pos n)
unfolding ldexp2_of
power_high n h =
    let a : n ≤ 1023 = omega arith in
    rw (le-ltb 1023 n a)

module _ (x : Float) (L : High x) where
  abbrev t : Float
  t = x ⊠ INV·LN2

  fit : T (fits binary64 t)
  fit = mul-fits binary64 x INV·LN2

  abbrev n : ℕ
  n = sums.n t fit L

  n_most : n ≤ 1000
  n_most = sums.n_most t fit L

  k_is : t ⊞ d2^52 ⊟ d2^52 ≡ round_of t
  k_is = sums.rounded t fit L

  k_whole : to_signed 63 (round_of t) ≡ pos n
  k_whole = ap (to_signed 63) (sym k_is) ∙ signed_value 63 (t ⊞ d2^52 ⊟ d2^52) false n (lt_of_le_of_lt n_most (lit< tt)) (sums.n_value t fit L)

  power_bits : 0x3ff0_0000_0000_0000 + to_bits binary64 (t ⊞ d2^52) * 2 ^ 52 % 2 ^ 64 ≡ (n + 1023) * 2 ^ 52
  power_bits = ap (λ (b : ℕ). 0x3ff0_0000_0000_0000 + b) (sums.field t fit L) ∙ times n
    where
      times : (n : ℕ) → 0x3ff0_0000_0000_0000 + n * 2 ^ 52 ≡ (n + 1023) * 2 ^ 52
      times n = omega arith

  power_is : of_bits binary64 (0x3ff0_0000_0000_0000 + to_bits binary64 (t ⊞ d2^52) * 2 ^ 52 % 2 ^ 64) ≡ ldexp2_of (to_signed 63 (round_of t))
  power_is = ap (of_bits binary64) power_bits ∙ power_high n n_most ∙ ap ldexp2_of (sym k_whole)

  -- what the code asks, and what it computes
  pub sum_number : T (not (is_nan (t ⊞ d2^52)))
  sum_number = sums.s_number t fit L

  pub sum_room : 0x3ff0_0000_0000_0000 + to_bits binary64 (t ⊞ d2^52) * 2 ^ 52 % 2 ^ 64 < 2 ^ 63
  sum_room = omega (arith, sums.field t fit L, n_most)

  pub high_number : T (not (nan_bits binary64 (0x3ff0_0000_0000_0000 + to_bits binary64 (t ⊞ d2^52) * 2 ^ 52 % 2 ^ 64)))
  high_number =
      plain_bits binary64 (0x3ff0_0000_0000_0000 + to_bits binary64 (t ⊞ d2^52) * 2 ^ 52 % 2 ^ 64) (inside (to_bits binary64 (t ⊞ d2^52) * 2 ^ 52 % 2 ^ 64) n (sums.field t fit L) n_most)
    where
      inside : (b n : ℕ) → b ≡ n * 2 ^ 52 → n ≤ 1000 → (0x3ff0_0000_0000_0000 + b) % 2 ^ 63 ≤ 0x7ff0_0000_0000_0000
      inside b n e h = omega arith

  one_factor : (n : ℕ) → n ≤ 1000 → le_z (pos 1024) (pos n) ≡ false
  one_factor n h = lt-leb 1024 n (lt_of_le_of_lt h (lit< tt))

  pub high_is : exp_near (less_ln2 x (t ⊞ d2^52 ⊟ d2^52)) ⊠ of_bits binary64 (0x3ff0_0000_0000_0000 + to_bits binary64 (t ⊞ d2^52) * 2 ^ 52 % 2 ^ 64) ≡ exp_reduced x
  unfolding exp_reduced exp_from scaled
  high_is = if_false _ (ap (le_z (pos 1024)) k_whole ∙ one_factor n n_most) (λ i. exp_near (less_ln2 x (k_is i)) ⊠ power_is i)
