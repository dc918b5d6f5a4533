-- A float in the range of an i32 is the same integer by way of an i64. Assumes nothing.
use Rattle.std.proofs.Common.{◌≡◌, ℕ, zero, suc, ◌+◌, ◌-◌, ◌*◌, ◌/◌, ◌^◌, ◌<◌, ◌≤◌, min, Bool, true, false, ◌&&◌, ◌||◌, T, eqb, ltb, ℤ, pos, neg_ℤ, sym, ap, ◌∙◌, subst, lt_of_lt_of_le}
use Rattle.std.proofs.Common.{le-add_right, div-lt_iff_lt-mul, mul-pos, mul-one, le-add_left, arith, eqb→eq, ltb→lt, lt→ltb, pow_pos, to_z-of_z, w32, w64, SFits, to_z, of_z}
use mathlib.Core.Bool.{false≢true}
use lib.Signed.{mag}
use lib.Ieee.{Float, nan, inf, fin, up, down, lt, le, eq, to_signed}
use lib.Ieee.Fits.{down_pos, and_l}

-- what the two tests of the code tell of x
pub record InI32 (x : Float) : Type 0 where
  pub from : T (le (fin true 1 (pos 63)) x)
  pub below : T (lt x (fin false 1 (pos 63)))
  pub same : to_signed 63 x ≡ to_signed 31 x
  pub small : mag (to_signed 31 x) < 2 ^ 31

at_most : (A B : ℕ) (b : Bool) → (ltb A B || (eqb B A && b)) ≡ true → A ≤ B
at_most A B b e = go (ltb A B) (ltb→lt A B) (subst T (sym e) tt)
  where
    go : (t : Bool) → (T t → A < B) → T (t || (eqb B A && b)) → A ≤ B
    go true h k = let l = h tt in omega arith
    go false h k = let l = eqb→eq B A (and_l (eqb B A) b k) in omega arith

or_left : (a b : Bool) → T a → T (a || b)
or_left true b t = tt
or_left false b t = absurd t

quotient_le : (A c P : ℕ) → 0 < c → A ≤ P * c → A / c ≤ P
quotient_le A c P h l = let q : A / c < suc P = (div-lt_iff_lt-mul h).1 (more A c P h l) in omega arith
  where
    more : (A c P : ℕ) → 0 < c → A ≤ P * c → A < suc P * c
    more A c P h l = omega arith

mag_neg : (n : ℕ) → n ≤ 2 ^ 31 → mag (neg_ℤ (pos n)) < 2 ^ 31
mag_neg zero h = pow_pos 31
mag_neg (suc n) h = omega arith

pub in_i32 : (x : Float) → le (fin true 1 (pos 31)) x ≡ true → lt x (fin false 1 (pos 31)) ≡ true → InI32 x
unfolding le to_signed
in_i32 nan a b = absurd (false≢true a)
in_i32 (inf true) a b = absurd (false≢true a)
in_i32 (inf false) a b = absurd (false≢true b)
in_i32 (fin true m e) a b =
    let A = m * up e * 1 in
    let P = down_pos e in
    let l : A ≤ 1 * 2 ^ 31 * down e = at_most A (1 * 2 ^ 31 * down e) _ a in
    let q : m * up e / down e ≤ 2 ^ 31 = quotient_le (m * up e) (down e) (2 ^ 31) P (subst (λ (n : ℕ). n ≤ 2 ^ 31 * down e) (mul-one (m * up e)) l) in
    record {
      from = or_left (ltb A (1 * 2 ^ 63 * down e)) _ (lt→ltb A (1 * 2 ^ 63 * down e) (wider A (down e) P l));
      below = lt→ltb 0 (A + 1 * 2 ^ 63 * down e) (lt_of_lt_of_le (mul-pos (pow_pos 63) P) (le-add_left (1 * 2 ^ 63 * down e) A));
      same = ap (λ (n : ℕ). neg_ℤ (pos n)) (mins (m * up e / down e) q);
      small = mag_neg (min (m * up e / down e) (2 ^ 31)) (min_le (m * up e / down e));
    }
  where
    wider : (A d : ℕ) → 0 < d → A ≤ 1 * 2 ^ 31 * d → A < 1 * 2 ^ 63 * d
    wider A d h l = omega arith

    mins : (q : ℕ) → q ≤ 2 ^ 31 → min q (2 ^ 63) ≡ min q (2 ^ 31)
    mins q h = omega arith

    min_le : (q : ℕ) → min q (2 ^ 31) ≤ 2 ^ 31
    min_le q = omega arith
in_i32 (fin false m e) a b =
    let A = m * up e * 1 in
    let P = down_pos e in
    let l : A < 1 * 2 ^ 31 * down e = ltb→lt A (1 * 2 ^ 31 * down e) (subst T (sym b) tt) in
    let q : m * up e / down e < 2 ^ 31 = (div-lt_iff_lt-mul P).1 (subst (λ (n : ℕ). n < 2 ^ 31 * down e) (mul-one (m * up e)) l) in
    record {
      from = or_left (ltb 0 (1 * 2 ^ 63 * down e + A)) _ (lt→ltb 0 (1 * 2 ^ 63 * down e + A) (lt_of_lt_of_le (mul-pos (pow_pos 63) P) (le-add_right (1 * 2 ^ 63 * down e) A)));
      below = lt→ltb A (1 * 2 ^ 63 * down e) (wider A (down e) P l);
      same = ap pos (mins (m * up e / down e) q);
      small = min_lt (m * up e / down e);
    }
  where
    wider : (A d : ℕ) → 0 < d → A < 1 * 2 ^ 31 * d → A < 1 * 2 ^ 63 * d
    wider A d h l = omega arith

    mins : (q : ℕ) → q < 2 ^ 31 → min q (2 ^ 63 - 1) ≡ min q (2 ^ 31 - 1)
    mins q h = omega arith

    min_lt : (q : ℕ) → min q (2 ^ 31 - 1) < 2 ^ 31
    min_lt q = omega arith

-- the i64 as the code reads it back, cast to an i32
module _ (x : Float) (r : ℤ) (is : r ≡ to_signed 63 x) (i : InI32 x) where
  r_is : r ≡ to_signed 31 x
  r_is = is ∙ i.same

  wide : to_z w64 (of_z w64 r) ≡ r
  wide = to_z-of_z {w = w64} (record { sfits = more (subst (λ (z : ℤ). mag z < 2 ^ 31) (sym r_is) i.small) })
    where
      more : mag r < 2 ^ 31 → mag r < 2 ^ 63
      more h = omega arith

  pub cast_fits : SFits w32 (to_z w64 (of_z w64 r))
  cast_fits = subst (SFits w32) (sym (wide ∙ r_is)) (record { sfits = i.small })

  pub cast_is : to_z w32 (of_z w32 (to_z w64 (of_z w64 r))) ≡ to_signed 31 x
  cast_is = to_z-of_z {w = w32} cast_fits ∙ wide ∙ r_is
