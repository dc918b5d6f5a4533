-- A rounded f64 between -2^52 and 2^52 is cast to an i64 with nothing lost. Assumes nothing.
use mathlib.Core.Path.{◌≡◌, refl, sym, ap, ◌∙◌, subst}
use mathlib.Core.Bool.{Bool, true, false, cond}
use Prim.Native.Nat.{ℕ, zero, suc, ◌+◌, ◌-◌, ◌*◌, ◌/◌, ◌^◌, ◌<◌, min}
use native.Mathlib.Nat.{lt_trans, div-one, add-zero, sub-zero}
use native.Mathlib.Omega.{arith}
use lib.Dec.{T, le→leb, lt→ltb, lit<}
use lib.Count.{count_trailing_zeros}
use lib.IntN.{ℤ, pos, negsuc, neg_ℤ}
use lib.Signed.{mag}
use lib.Ieee.{Float, nan, inf, fin, binary64, size, odd, round, sum, add, neg, lt, of_int, to_signed, in_float, in_signed, of_bits}
use lib.Ieee.Back.{positive_back, negative_back}
use borrow.Author.Tests.{ltb-true, le-leb, lt-ltb, le-ltb}
use mir.Syntax.{w64}
use mir.Val.{to_z, of_z}
use Rattle.ieee.specs.Whole.{whole, half_up, round_of}
use Rattle.ieee.specs.Numbers64.{d0, d2^52}
use Rattle.det.specs.Rounded.{no_fraction}
use Rattle.float.proofs.Signed.{back}

-- ---- what is rounded has no fraction

odd_whole : (d : ℕ) (s : Bool) (q : ℕ) → T (no_fraction (odd d s q 0 0))
unfolding odd no_fraction
odd_whole d s zero = tt
odd_whole d s (suc q) = rw (le-leb 0 (0 + count_trailing_zeros d (suc q)) (omega arith)) tt

pub round_whole : (y : Float) → T (no_fraction (round_of y))
unfolding whole no_fraction
round_whole nan = tt
round_whole (inf s) = tt
round_whole (fin s m (pos e)) = tt
round_whole (fin s m (negsuc e)) = odd_whole (size (half_up m (2 ^ suc e))) s (half_up m (2 ^ suc e))

-- ---- between -2^52 and 2^52

pub record Inner (k : Float) : Type 0 where
  pub s : Bool
  pub m : ℕ
  pub e : ℕ
  pub is : k ≡ fin s m (pos e)
  pub below : m * 2 ^ e * 1 < 2 ^ 52

never : {A : Type 0} → false ≡ true → A
never t = absurd (subst T (sym t) tt)

pub inner : (k : Float) → T (no_fraction k) → lt (neg d2^52) k ≡ true → lt k d2^52 ≡ true → Inner k
unfolding no_fraction lt neg of_bits
inner nan n l h = never l
inner (inf true) n l h = never l
inner (inf false) n l h = never h
inner (fin true m (pos e)) n l h = record { s = true; m = m; e = e; is = refl; below = ltb-true (m * 2 ^ e * 1) (2 ^ 52) l }
inner (fin false m (pos e)) n l h = record { s = false; m = m; e = e; is = refl; below = ltb-true (m * 2 ^ e * 1) (2 ^ 52) h }
inner (fin s m (negsuc e)) n l h = absurd n

-- the whole number of a sign and a size: there is one zero
abbrev signed : Bool → ℕ → ℤ
signed s n = cond s (neg_ℤ (pos n)) (pos n)

signed_small : (s : Bool) (n : ℕ) → n < 2 ^ 52 → mag (signed s n) < 2 ^ 53
signed_small false n h = omega arith
signed_small true zero h = lit< tt
signed_small true (suc n) h = omega arith

-- adding 0 gives the f64 of that number: a zero loses its sign, and nothing else changes
sum_zero : (s : Bool) (a : ℕ) → sum binary64 s a false 0 1 ≡ of_int binary64 (signed s a)
unfolding sum of_int
sum_zero false a = ap (λ (n : ℕ). round binary64 false n 1) (add-zero a)
sum_zero true zero = refl
sum_zero true (suc a) = rw (le-ltb (suc a) 0 (omega arith), lt-ltb 0 (suc a) (omega arith), sub-zero (suc a))

add_zero_is : (s : Bool) (m e : ℕ) → add binary64 (fin s m (pos e)) d0 ≡ of_int binary64 (signed s (m * 2 ^ e * 1))
unfolding add of_bits
add_zero_is s m e = sum_zero s (m * 2 ^ e * 1)

to_signed_is : (s : Bool) (m e : ℕ) → m * 2 ^ e * 1 < 2 ^ 52 → to_signed 63 (fin s m (pos e)) ≡ signed s (m * 2 ^ e * 1)
unfolding to_signed
to_signed_is s m e h = go (m * 2 ^ e) h
  where
    go : (n : ℕ) → n * 1 < 2 ^ 52 → cond s (neg_ℤ (pos (min (n / 1) (2 ^ 63)))) (pos (min (n / 1) (2 ^ 63 - 1))) ≡ signed s (n * 1)
    go n b =
        let least : (c : ℕ) → 2 ^ 52 < c → min (n / 1) c ≡ n * 1 = λ c l. ap (λ (x : ℕ). min x c) (div-one n) ∙ omega arith in
        ap (λ (x : ℕ). cond s (neg_ℤ (pos x)) (pos (min (n / 1) (2 ^ 63 - 1)))) (least (2 ^ 63) (lit< tt))
        ∙ ap (λ (x : ℕ). cond s (neg_ℤ (pos (n * 1))) (pos x)) (least (2 ^ 63 - 1) (lit< tt))

-- an integer that f64 has comes back
pub in_float_lem : (z : ℤ) → mag z < 2 ^ 53 → T (in_float binary64 z)
unfolding in_float
in_float_lem (pos n) h = le→leb n (2 ^ 53) (omega arith)
in_float_lem (negsuc n) h = lt→ltb n (2 ^ 53) h

there_and_back : (z : ℤ) → mag z < 2 ^ 53 → T (in_signed binary64 63 (of_int binary64 z)) × (to_signed 63 (of_int binary64 z) ≡ z)
there_and_back (pos n) h = positive_back binary64 63 n (in_float_lem (pos n) h) (lt_trans h (lit< tt))
there_and_back (negsuc n) h = negative_back binary64 63 n (in_float_lem (negsuc n) h) (lt_trans h (lit< tt))

module _ (k : Float) (I : Inner k) where
  number : to_signed 63 k ≡ signed I.s (I.m * 2 ^ I.e * 1)
  number = ap (to_signed 63) I.is ∙ to_signed_is I.s I.m I.e I.below

  small : mag (to_signed 63 k) < 2 ^ 53
  small = subst (λ (z : ℤ). mag z < 2 ^ 53) (sym number) (signed_small I.s (I.m * 2 ^ I.e * 1) I.below)

  again_is : add binary64 k d0 ≡ of_int binary64 (to_signed 63 k)
  again_is = ap (λ (x : Float). add binary64 x d0) I.is ∙ add_zero_is I.s I.m I.e ∙ ap (of_int binary64) (sym number)

  pub cast_in : T (in_signed binary64 63 (add binary64 k d0))
  cast_in = subst (λ (x : Float). T (in_signed binary64 63 x)) (sym again_is) (there_and_back (to_signed 63 k) small).0

  pub cast_is : to_z w64 (of_z w64 (to_signed 63 (add binary64 k d0))) ≡ to_signed 63 k
  cast_is =
      ap (λ (x : Float). to_z w64 (of_z w64 (to_signed 63 x))) again_is
      ∙ ap (λ (z : ℤ). to_z w64 (of_z w64 z)) (there_and_back (to_signed 63 k) small).1
      ∙ back (to_signed 63 k) (lt_trans small (lit< tt))
