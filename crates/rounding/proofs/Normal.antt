-- The pattern of an `f64` in the normal range of binary32, rounded as one number: exponent and digits together. Assumes nothing.
use Rattle.std.proofs.Common.{◌≡◌, ℕ, ◌+◌, ◌-◌, ◌*◌, ◌/◌, ◌%◌, ◌^◌, ◌<◌, ◌≤◌, Bool, true, false, cond, not, T, leb, sym, refl, ap, ◌∙◌, inl, inr, le_of_eq, le_refl, eq-or-lt_of_le, arith}
use Rattle.std.proofs.Common.{leb→le, pow_pos, le-leb}
use Prim.Native.Nat.{compare, Ordering}
use lib.Dec.{nleb→lt}
use borrow.Author.Tests.{lt-leb}
use lib.Ieee.{Float, binary32, binary64, units, round, nearest, of_fields, of_bits, to_bits, fits}
use lib.Ieee.Bits.{of_bits-to_bits, to_bits-lt}
use lib.Ieee.Nearest.{closest, closest_same}
use Rattle.ieee.specs.Narrow.{narrow_of}
use Rattle.ieee.proofs.Fields.{fields_mid}
use Rattle.ieee.proofs.Rounding.{Cmp, cmp, closest_le, closest_ge}
use Rattle.ieee.proofs.Quotients.{closest_add}
use Rattle.rounding.proofs.Pack.{pack, pack_over}
use Rattle.rounding.proofs.Narrowing.{narrow_at, rounded}

-- ---- half a unit less one, and one more where the quotient is odd, added before the cut
pub rounded_cut : (m : ℕ) → (m + 0xfff_ffff + m / 2 ^ 29 % 2) / 2 ^ 29 ≡ closest m (2 ^ 29)
rounded_cut m = go (m / 2 ^ 29) (compare (m % 2 ^ 29 * 2) (2 ^ 29)) (cmp (m % 2 ^ 29 * 2) (2 ^ 29)) refl
  where
    go : (q : ℕ) (o : Ordering) → Cmp o (m % 2 ^ 29 * 2) (2 ^ 29) → q ≡ m / 2 ^ 29 → (m + 0xfff_ffff + q % 2) / 2 ^ 29 ≡ nearest q o
    go q Ordering.lt h e = omega arith
    go q Ordering.eq h e = omega arith
    go q Ordering.gt h e = omega arith

-- ---- the fields of a pattern made of a sign and a magnitude
module _ (s : Bool) (M : ℕ) (h : M < 2 ^ 63) where
  as_fields : of_bits binary64 (cond s (2 ^ 63) 0 + M) ≡ of_fields binary64 s (M / 2 ^ 52) (M % 2 ^ 52)
  unfolding of_bits
  as_fields = go s
    where
      pattern : Bool → ℕ
      pattern s = cond s (2 ^ 63) 0 + M

      go : (s : Bool) → of_fields binary64 (leb (2 ^ 63) (pattern s)) (pattern s % 2 ^ 63 / 2 ^ 52) (pattern s % 2 ^ 52) ≡ of_fields binary64 s (M / 2 ^ 52) (M % 2 ^ 52)
      go true =
          let a : 2 ^ 63 ≤ 2 ^ 63 + M = omega arith in
          let b : (2 ^ 63 + M) % 2 ^ 63 / 2 ^ 52 ≡ M / 2 ^ 52 = omega arith in
          let c : (2 ^ 63 + M) % 2 ^ 52 ≡ M % 2 ^ 52 = omega arith in
          λ i. of_fields binary64 (le-leb (2 ^ 63) (2 ^ 63 + M) a i) (b i) (c i)
      go false =
          let a : 0 + M < 2 ^ 63 = omega arith in
          let b : (0 + M) % 2 ^ 63 / 2 ^ 52 ≡ M / 2 ^ 52 = omega arith in
          let c : (0 + M) % 2 ^ 52 ≡ M % 2 ^ 52 = omega arith in
          λ i. of_fields binary64 (lt-leb (2 ^ 63) (0 + M) a i) (b i) (c i)

-- ---- the pattern's two forms meet at the infinity's
pack_to : (s : Bool) (r k : ℕ) → r ≤ 2 ^ 24 → 2 ^ 23 ≤ r → k ≤ 253 → of_bits binary32 (cond s (2 ^ 31) 0 + (k * 2 ^ 23 + r)) ≡ units binary32 s r k
pack_to s r k h g l = elim (eq-or-lt_of_le (most k r h l)) [
  | inl e ↦ ap (λ (n : ℕ). of_bits binary32 (cond s (2 ^ 31) 0 + n)) e ∙ pack_over s r k h (λ p. g) (le_of_eq (sym e))
  | inr b ↦ pack s r k h (λ p. g) b
]
  where
    most : (k r : ℕ) → r ≤ 2 ^ 24 → k ≤ 253 → k * 2 ^ 23 + r ≤ 0x7f80_0000
    most k r h l = omega arith

module _ (s : Bool) (M : ℕ) (lo : 0x3810_0000_0000_0000 ≤ M) (hi : M < 0x47f0_0000_0000_0000) where
  -- the digits with the leading one, and the exponent's field of the result, less one
  q : ℕ
  q = M % 2 ^ 52 + 2 ^ 52

  k : ℕ
  k = M / 2 ^ 52 - 897

  q_ge : 2 ^ 52 ≤ q
  unfolding q
  q_ge = omega arith

  q_lt : q < 2 ^ 53
  unfolding q
  q_lt = omega arith

  x_is : narrow_of (of_bits binary64 (cond s (2 ^ 63) 0 + M)) ≡ round binary32 s (q * 2 ^ (M / 2 ^ 52 - 1)) (2 ^ 1074)
  unfolding q
  x_is =
      ap narrow_of (as_fields s M (omega arith))
      ∙ narrow_at (of_fields binary64 s (M / 2 ^ 52) (M % 2 ^ 52)) s ((M % 2 ^ 52 + 2 ^ 52) * 2 ^ (M / 2 ^ 52 - 1)) (2 ^ 1074) (pow_pos 1074)
      (fields_mid binary64 s (M / 2 ^ 52) (M % 2 ^ 52) (λ e. omega arith) (λ e. omega arith))

  units_are : round binary32 s (q * 2 ^ (M / 2 ^ 52 - 1)) (2 ^ 1074) ≡ units binary32 s (closest q (2 ^ 29)) k
  unfolding k
  units_are =
      rounded s q (M / 2 ^ 52 - 1) 10 39 (M / 2 ^ 52 - 897) (meet (M / 2 ^ 52) (omega arith)) (omega (arith, q_lt)) (le_refl 39) (λ l. omega (arith, q_ge))
      ∙ ap (λ (r : ℕ). units binary32 s r k) (closest_same (q * 2 ^ 10) (2 ^ 39) q (2 ^ 29) (pow_pos 39) (pow_pos 29) (omega arith))
    where
      meet : (x : ℕ) → 897 ≤ x → x - 1 + 149 + 39 ≡ 10 + 1074 + (x - 897)
      meet x h = omega arith

  pattern_is : closest (M - 0x3800_0000_0000_0000) (2 ^ 29) ≡ k * 2 ^ 23 + closest q (2 ^ 29)
  pattern_is =
      let swap : closest q (2 ^ 29) + k * 2 ^ 23 ≡ k * 2 ^ 23 + closest q (2 ^ 29) = omega arith in
      ap (λ (n : ℕ). closest n (2 ^ 29)) parted ∙ closest_add q (2 ^ 29) (k * 2 ^ 23) (pow_pos 29) (omega arith) ∙ swap
    where
      parted : M - 0x3800_0000_0000_0000 ≡ q + k * 2 ^ 23 * 2 ^ 29
      parted = unfold q k in omega arith

  -- as the code computes it
  pub narrow_normal : (n : ℕ) → n ≡ (M - 0x3800_0000_0000_0000 + 0xfff_ffff + (M - 0x3800_0000_0000_0000) / 2 ^ 29 % 2) / 2 ^ 29
      → of_bits binary32 (cond s (2 ^ 31) 0 + n) ≡ narrow_of (of_bits binary64 (cond s (2 ^ 63) 0 + M))
  narrow_normal n e =
      ap (λ (i : ℕ). of_bits binary32 (cond s (2 ^ 31) 0 + i)) (e ∙ rounded_cut (M - 0x3800_0000_0000_0000) ∙ pattern_is)
      ∙ pack_to s (closest q (2 ^ 29)) k (closest_le q 29 24 q_lt) (closest_ge q 29 23 q_ge) k_le
      ∙ sym (x_is ∙ units_are)
    where
      k_le : k ≤ 253
      k_le = unfold k in omega arith

-- ---- a pattern is its sign and its magnitude
pub sign_magnitude : (x : Float) → T (fits binary64 x) → of_bits binary64 (cond (leb (2 ^ 63) (to_bits binary64 x)) (2 ^ 63) 0 + to_bits binary64 x % 2 ^ 63) ≡ x
sign_magnitude x fit =
    let b = to_bits binary64 x in
    ap (of_bits binary64) (go b (to_bits-lt binary64 x fit) (leb (2 ^ 63) b) (leb→le (2 ^ 63) b) (nleb→lt (2 ^ 63) b)) ∙ of_bits-to_bits binary64 x fit
  where
    go : (b : ℕ) → b < 2 ^ 64 → (t : Bool) → (T t → 2 ^ 63 ≤ b) → (T (not t) → b < 2 ^ 63) → cond t (2 ^ 63) 0 + b % 2 ^ 63 ≡ b
    go b h true p q = let l = p tt in omega arith
    go b h false p q = let l = q tt in omega arith
