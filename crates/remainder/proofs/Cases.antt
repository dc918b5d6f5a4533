-- A power of two as a pattern; the product that is a remainder; and the cases of the code. Assumes nothing.
use mathlib.Core.Path.{◌≡◌, refl, sym, ap, ◌∙◌, subst}
use Prim.Native.Nat.{ℕ, zero, suc, ◌+◌, ◌-◌, ◌*◌, ◌/◌, ◌%◌, ◌^◌, ◌≤◌, ◌<◌}
use native.Mathlib.Nat.{mul_assoc, one-mul, zero-mul, mul-pos, mod-eq_of_lt, mod-lt, lt_of_lt_of_le, zero-lt-suc, lt_irrefl, le_of_lt, lt_of_le_of_lt}
use native.Mathlib.Omega.{arith}
use mathlib.Core.Bool.{Bool, true, false, not, cond}
use lib.IntN.{pos}
use lib.Dec.{T, leb, eqb, eqb→eq, le→leb, lit<, lit≤}
use borrow.Author.Tests.{le-leb, lt-leb, eq-eqb}
use lib.Pow.{pow-add, pow_pos, pow-lt}
use lib.Ieee.{Float, nan, inf, fin, binary32, unlike, round, mul, rem, of_int, in_float, fits, is_nan, of_fields, of_bits, down}
use lib.Ieee.Exact.{HasValue}
use lib.Ieee.Fits.{up_pos}
use Rattle.ieee.specs.Nearest.{IsValue}
use Rattle.ieee.proofs.Exactly.{round_value}
use Rattle.ieee.proofs.Fields.{fields_low, fields_mid}
use Rattle.ieee.proofs.Value.{mul_value, value_unique}
use Rattle.ieee.proofs.Remainder.{mod_scale, rem_value, rem_exact}
use Rattle.remainder.specs.Parts.{significand_of, place_of, units_of}
use Rattle.remainder.proofs.Patterns.{significand_lt, significand_pos, place_le, units_pos, units_lt, sign, magnitude, infinite, finite, magnitude_le}

-- ---- 2 ^ k units with a sign
fields_of : (s : Bool) (p : ℕ) → p < 2 ^ 31 → of_bits binary32 (cond s (2 ^ 31) 0 + p) ≡ of_fields binary32 s (p / 2 ^ 23) (p % 2 ^ 23)
unfolding of_bits
fields_of true p h =
    let a : 2 ^ 31 ≤ 2 ^ 31 + p = omega arith in
    let b : (2 ^ 31 + p) % 2 ^ 31 / 2 ^ 23 ≡ p / 2 ^ 23 = omega arith in
    let c : (2 ^ 31 + p) % 2 ^ 23 ≡ p % 2 ^ 23 = omega arith in
    λ i. of_fields binary32 (le-leb (2 ^ 31) (2 ^ 31 + p) a i) (b i) (c i)
fields_of false p h =
    let a : 0 + p < 2 ^ 31 = omega arith in
    let b : (0 + p) % 2 ^ 31 / 2 ^ 23 ≡ p / 2 ^ 23 = omega arith in
    let c : (0 + p) % 2 ^ 23 ≡ p % 2 ^ 23 = omega arith in
    λ i. of_fields binary32 (lt-leb (2 ^ 31) (0 + p) a i) (b i) (c i)

pub shifted : (k : ℕ) → k < 23 → 1 * 2 ^ k % 2 ^ 32 < 2 ^ 23
shifted k h = let l : 2 ^ k < 2 ^ 23 = pow-lt {j = 23} h in below (2 ^ k) l
  where
    below : (n : ℕ) → n < 2 ^ 23 → 1 * n % 2 ^ 32 < 2 ^ 23
    below n l = omega arith

pub unit_low : (s : Bool) (k : ℕ) → k < 23 → HasValue (of_bits binary32 (cond s (2 ^ 31) 0 + 1 * 2 ^ k % 2 ^ 32)) s (2 ^ k) (2 ^ 149)
unit_low s k h =
    let p = 1 * 2 ^ k % 2 ^ 32 in
    let l = shifted k h in
    subst (λ (x : Float). HasValue x s (2 ^ k) (2 ^ 149)) (sym (fields_of s p (omega arith)))
    (subst (λ (n : ℕ). HasValue (of_fields binary32 s (p / 2 ^ 23) (p % 2 ^ 23)) s n (2 ^ 149)) (same (2 ^ k) (pow-lt {j = 23} h))
    (fields_low binary32 s (p / 2 ^ 23) (p % 2 ^ 23) (none p l)))
  where
    none : (p : ℕ) → p < 2 ^ 23 → p / 2 ^ 23 ≡ 0
    none p l = omega arith

    same : (n : ℕ) → n < 2 ^ 23 → 1 * n % 2 ^ 32 % 2 ^ 23 * 1 ≡ n
    same n l = omega arith

pub unit_mid : (s : Bool) (k : ℕ) → 23 ≤ k → k < 254 → HasValue (of_bits binary32 (cond s (2 ^ 31) 0 + (k - 22) * 0x80_0000)) s (2 ^ k) (2 ^ 149)
unit_mid s k h l =
    let p = (k - 22) * 2 ^ 23 in
    subst (λ (x : Float). HasValue x s (2 ^ k) (2 ^ 149)) (sym (fields_of s p (omega arith)))
    (subst (λ (n : ℕ). HasValue (of_fields binary32 s (p / 2 ^ 23) (p % 2 ^ 23)) s n (2 ^ 149)) same
    (fields_mid binary32 s (p / 2 ^ 23) (p % 2 ^ 23) (λ e. some e) (λ e. few e)))
  where
    some : (k - 22) * 2 ^ 23 / 2 ^ 23 ≡ 0 → ⊥
    some e = omega arith

    few : (k - 22) * 2 ^ 23 / 2 ^ 23 ≡ 255 → ⊥
    few e = omega arith

    digits : (k : ℕ) → 23 ≤ k → (k - 22) * 2 ^ 23 % 2 ^ 23 + 2 ^ 23 ≡ 2 ^ 23
    digits k h = omega arith

    field : (k : ℕ) → 23 ≤ k → (k - 22) * 2 ^ 23 / 2 ^ 23 - 1 ≡ k - 23
    field k h = omega arith

    all : (k : ℕ) → 23 ≤ k → 23 + (k - 23) ≡ k
    all k h = omega arith

    same : ((k - 22) * 2 ^ 23 % 2 ^ 23 + 2 ^ 23) * 2 ^ ((k - 22) * 2 ^ 23 / 2 ^ 23 - 1) ≡ 2 ^ k
    same = (λ i. digits k h i * 2 ^ field k h i) ∙ sym (pow-add 2 23 (k - 23)) ∙ ap (λ (n : ℕ). 2 ^ n) (all k h)

-- ---- a remainder of significands times the smaller unit
pub whole_fits : (r : ℕ) → r < 2 ^ 24 → T (in_float binary32 (pos r))
unfolding in_float
whole_fits r h = le→leb r (2 ^ 24) (le_of_lt h)

whole_value : (r : ℕ) → r < 2 ^ 24 → HasValue (of_int binary32 (pos r)) false r 1
unfolding of_int
whole_value r h = round_value binary32 false r 0 h (lit≤ tt) r 1 (zero-lt-suc 0) refl

same_sign : (s : Bool) → unlike false s ≡ s
same_sign true = refl
same_sign false = refl

-- by the numbers that the code has: k and p are the places of n and m, q and a their significands
module _ (m n k a p q r : ℕ) (P : 0 < n) (l : n ≤ m) (ek : k ≡ place_of n) (ea : a ≡ significand_of m) (ep : p ≡ place_of m) (eq : q ≡ significand_of n) where
  pub divisor : (0 < q) × (q ≤ 2 ^ 24)
  divisor = (subst (λ (z : ℕ). 0 < z) (sym eq) (significand_pos n P), subst (λ (z : ℕ). z ≤ 2 ^ 24) (sym eq) (le_of_lt (significand_lt n)))

  pub places : k ≤ p
  places = subst (λ (z : ℕ). z ≤ p) (sym ek) (subst (λ (z : ℕ). place_of n ≤ z) (sym ep) (place_le n m l))

  pub few : r ≡ a * 2 ^ (p - k) % q → r < 2 ^ 24
  few e = subst (λ (z : ℕ). z < 2 ^ 24) (sym e) (lt_of_lt_of_le (mod-lt (a * 2 ^ (p - k)) divisor.0) divisor.1)

  units_rem : r ≡ a * 2 ^ (p - k) % q → r * 2 ^ k ≡ units_of m % units_of n
  units_rem e =
      ap (λ (z : ℕ). z * 2 ^ k) e
      ∙ mod_scale (a * 2 ^ (p - k)) q (2 ^ k) divisor.0 (pow_pos k)
      ∙ ap (λ (z : ℕ). z % (q * 2 ^ k)) (mul_assoc a (2 ^ (p - k)) (2 ^ k) ∙ ap (λ (z : ℕ). a * z) (joined p k places))
      ∙ (λ i. (ea i * 2 ^ ep i) % (eq i * 2 ^ ek i))
    where
      joined : (a b : ℕ) → b ≤ a → 2 ^ (a - b) * 2 ^ b ≡ 2 ^ a
      joined a b h = let e : a - b + b ≡ a = omega arith in sym (pow-add 2 (a - b) b) ∙ ap (λ (z : ℕ). 2 ^ z) e

  pub product : (s : Bool) (u : Float) → r ≡ a * 2 ^ (p - k) % q → HasValue u s (2 ^ k) (2 ^ 149) → mul binary32 (of_int binary32 (pos r)) u ≡ round binary32 s (units_of m % units_of n) (2 ^ 149)
  product s u e v =
      mul_value binary32 (of_int binary32 (pos r)) u false s r 1 (2 ^ k) (2 ^ 149) (zero-lt-suc 0) (pow_pos 149) (whole_value r (few e)) v
      ∙ (λ i. round binary32 (same_sign s i) (units_rem e i) (one-mul (2 ^ 149) i))

-- ---- the cases
pub first_nan : (x y : Float) → x ≡ nan → x ≡ rem binary32 x y
unfolding rem
first_nan x y e = e ∙ ap (λ (z : Float). rem binary32 z y) (sym e)

pub second_nan : (x y : Float) → y ≡ nan → y ≡ rem binary32 x y
second_nan x y e = e ∙ sym (nothing x) ∙ ap (rem binary32 x) (sym e)
  where
    nothing : (x : Float) → rem binary32 x nan ≡ nan
    nothing nan = unfold rem in refl
    nothing (inf s) = unfold rem in refl
    nothing (fin s m e) = unfold rem in refl

pub of_infinite : (x y : Float) (s : Bool) → x ≡ inf s → nan ≡ rem binary32 x y
unfolding rem
of_infinite x y s e = ap (λ (z : Float). rem binary32 z y) (sym e)

by_infinite : (x y : Float) (s t : Bool) (X : ℕ) → HasValue x s X (2 ^ 149) → y ≡ inf t → x ≡ rem binary32 x y
unfolding rem
by_infinite (fin s' m e) y s t X v h = ap (rem binary32 (fin s' m e)) {x = inf t} (sym h)
by_infinite nan y s t X v h = elim v [ ]
by_infinite (inf _) y s t X v h = elim v [ ]

by_zero : (x y : Float) (s t : Bool) (X : ℕ) → HasValue x s X (2 ^ 149) → HasValue y t 0 (2 ^ 149) → nan ≡ rem binary32 x y
unfolding rem
by_zero (fin s' m e) (fin t' zero d) s t X v w = refl
by_zero (fin s' m e) (fin t' (suc n) d) s t X v w =
    absurd (lt_irrefl 0 (subst (λ (z : ℕ). 0 < z) (w.1 ∙ zero-mul (down d)) (mul-pos (mul-pos (zero-lt-suc n) (up_pos d)) (pow_pos 149))))
by_zero nan y s t X v w = elim v [ ]
by_zero (inf _) y s t X v w = elim v [ ]
by_zero (fin s' m e) nan s t X v w = elim w [ ]
by_zero (fin s' m e) (inf _) s t X v w = elim w [ ]

module _ (x y : Float) (fx : T (fits binary32 x)) (fy : T (fits binary32 y)) (nx : T (not (is_nan x))) (ny : T (not (is_nan y))) where
  abbrev M : ℕ
  M = magnitude x fx nx

  abbrev N : ℕ
  N = magnitude y fy ny

  abbrev s : Bool
  s = sign x fx nx

  abbrev t : Bool
  t = sign y fy ny

  finite_x : (M ≡ 0x7f80_0000 → ⊥) → M < 0x7f80_0000
  finite_x h = let l = magnitude_le x fx nx in less M l h
    where
      less : (m : ℕ) → m ≤ 0x7f80_0000 → (m ≡ 0x7f80_0000 → ⊥) → m < 0x7f80_0000
      less m l h = omega arith

  pub case_infinite : M ≡ 0x7f80_0000 → nan ≡ rem binary32 x y
  case_infinite e = of_infinite x y s (infinite x fx nx e)

  pub case_zero : (M ≡ 0x7f80_0000 → ⊥) → N ≡ 0 → nan ≡ rem binary32 x y
  case_zero h e =
      by_zero x y s t (units_of M) (finite x fx nx (finite_x h))
      (subst (λ (z : ℕ). HasValue y t z (2 ^ 149)) (ap units_of e ∙ none) (finite y fy ny (subst (λ (z : ℕ). z < 0x7f80_0000) (sym e) (lit< tt))))
    where
      none : units_of 0 ≡ 0
      none = unfold significand_of place_of in refl

  pub case_below : (M ≡ 0x7f80_0000 → ⊥) → M < N → x ≡ rem binary32 x y
  case_below h l = go (eqb N 0x7f80_0000) (eqb→eq N 0x7f80_0000) (λ k e. absurd (subst (λ (b : Bool). T (not b)) (eq-eqb N 0x7f80_0000 e) k))
    where
      vx : IsValue binary32 s (units_of M) x
      vx = record { held = fx; is = finite x fx nx (finite_x h) }

      less : (m n : ℕ) → m ≤ n → (m ≡ n → ⊥) → m < n
      less m n l h = omega arith

      positive : (m n : ℕ) → m < n → 0 < n
      positive m n l = omega arith

      go : (b : Bool) → (T b → N ≡ 0x7f80_0000) → (T (not b) → N ≡ 0x7f80_0000 → ⊥) → x ≡ rem binary32 x y
      go true p q = by_infinite x y s t (units_of M) vx.is (infinite y fy ny (p tt))
      go false p q =
          let vy : IsValue binary32 t (units_of N) y = record { held = fy; is = finite y fy ny (less N 0x7f80_0000 (magnitude_le y fy ny) (q tt)) } in
          let vr = rem_exact binary32 s t (units_of M) (units_of N) x y vx vy (units_pos N (positive M N l)) in
          value_unique binary32 binary32 x (rem binary32 x y) s (units_of M) (2 ^ 149) (pow_pos 149) fx vr.held vx.is
          (subst (λ (z : ℕ). HasValue (rem binary32 x y) s z (2 ^ 149)) (mod-eq_of_lt (units_lt M N l)) vr.is)

  pub ordered : (M ≡ 0x7f80_0000 → ⊥) → (N ≡ 0 → ⊥) → N ≤ M → (0 < N) × (N ≤ M) × (M < 0x7f80_0000)
  ordered h p l = (positive N p, l, finite_x h)
    where
      positive : (n : ℕ) → (n ≡ 0 → ⊥) → 0 < n
      positive n h = omega arith

  pub case_above : (r : Float) → (M ≡ 0x7f80_0000 → ⊥) → (N ≡ 0 → ⊥) → N ≤ M → r ≡ round binary32 s (units_of M % units_of N) (2 ^ 149) → r ≡ rem binary32 x y
  case_above r h p l e =
      let o = ordered h p l in
      e ∙ sym (rem_value binary32 s t (units_of M) (units_of N) (units_pos N o.0) x y (finite x fx nx o.2) (finite y fy ny (lt_of_le_of_lt l o.2)))
