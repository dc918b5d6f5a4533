-- Values written without rounding: they fit, they have the value that they say, and what rounds to such a value is it. Assumes nothing.
use mathlib.Core.Path.{◌≡◌, refl, sym, ap, ◌∙◌, subst}
use Prim.Native.Nat.{ℕ, zero, suc, ◌+◌, ◌-◌, ◌*◌, ◌/◌, ◌^◌, ◌≤◌, ◌<◌}
use native.Mathlib.Nat.{zero-add, mul-one, mul_assoc, mul_right_comm, lt_of_lt_of_le, le_of_lt}
use native.Mathlib.Omega.{arith}
use mathlib.Core.Bool.{Bool, true, false, not, cond}
use lib.IntN.{ℤ, pos, negsuc}
use lib.Dec.{T, leb, leb→le, nleb→lt}
use lib.Pow.{pow-add, pow_pos, shl_lt, pow_mono}
use lib.Count.{count_trailing_zeros}
use lib.Ieee.{Float, fin, Format, prec, emax, low, minus, size, odd, round, fits}
use lib.Ieee.Digits.{size-lt}
use lib.Ieee.Fits.{round-fits, odd-fits, reach}
use lib.Ieee.Exact.{HasValue, round_exact, odd_sign}
use Rattle.ieee.specs.Whole.{exactly}
use Rattle.ieee.proofs.Value.{revalue, value_unique}

-- ---- `odd` with j more powers of two above and below the line
minus_shift : (a l j : ℕ) → minus (a + j) (l + j) ≡ minus a l
minus_shift a l j = go (leb l a) (leb→le l a) (nleb→lt l a) (leb (l + j) (a + j)) (leb→le (l + j) (a + j)) (nleb→lt (l + j) (a + j))
  where
    off : a < l → l + j ≤ a + j → ⊥
    off h k = omega arith

    off' : l ≤ a → a + j < l + j → ⊥
    off' h k = omega arith

    up_same : a + j - (l + j) ≡ a - l
    up_same = omega arith

    down_same : l + j - suc (a + j) ≡ l - suc a
    down_same = omega arith

    go : (b : Bool) → (T b → l ≤ a) → (T (not b) → a < l) → (b' : Bool) → (T b' → l + j ≤ a + j) → (T (not b') → a + j < l + j)
        → cond b' (pos (a + j - (l + j))) (negsuc (l + j - suc (a + j))) ≡ cond b (pos (a - l)) (negsuc (l - suc a))
    go true h k true h' k' = ap pos up_same
    go true h k false h' k' = absurd (off' (h tt) (k' tt))
    go false h k true h' k' = absurd (off (k tt) (h' tt))
    go false h k false h' k' = ap negsuc down_same

odd_shift : (d : ℕ) (s : Bool) (q k l j : ℕ) → odd d s q (k + j) (l + j) ≡ odd d s q k l
unfolding odd
odd_shift d s zero k l j = refl
odd_shift d s (suc q) k l j = go
  where
    sum_comm : (k t j : ℕ) → k + t + j ≡ k + j + t
    sum_comm k t j = omega arith

    go : fin s (suc q / 2 ^ count_trailing_zeros d (suc q)) (minus (k + j + count_trailing_zeros d (suc q)) (l + j)) ≡
        fin s (suc q / 2 ^ count_trailing_zeros d (suc q)) (minus (k + count_trailing_zeros d (suc q)) l)
    go =
        let t = count_trailing_zeros d (suc q) in
        ap (λ (z : ℤ). fin s (suc q / 2 ^ t) z) (ap (λ (z : ℕ). minus z (l + j)) (sym (sum_comm k t j)) ∙ minus_shift (k + t) l j)

-- ---- an equation over 2 ^ i as one over 2 ^ (i + j), the powers being too long for `omega`
lift : (i j num q den : ℕ) → num * 2 ^ i ≡ q * den → num * 2 ^ (i + j) ≡ q * 2 ^ j * den
lift i j num q den e =
    ap (λ (z : ℕ). num * z) (pow-add 2 i j) ∙ sym (mul_assoc num (2 ^ i) (2 ^ j)) ∙ ap (λ (z : ℕ). z * 2 ^ j) e ∙ mul_right_comm q den (2 ^ j)

pub exactly_value : (s : Bool) (q l : ℕ) → HasValue (exactly s q l) s q (2 ^ l)
exactly_value s q l = subst (λ (n : ℕ). HasValue (exactly s q l) s n (2 ^ l)) (mul-one q) (odd_sign (size q) s q 0 l)

-- ---- q of at most `prec` digits, at a place not below the smallest value's
module _ (f : Format) (s : Bool) (q l : ℕ) (small : q < 2 ^ prec f) (place : l ≤ low f) where
  back : l + (low f - l) ≡ low f
  back = omega arith

  in_range : q * 2 ^ (low f - l) < 2 ^ (low f + suc (emax f))
  in_range = lt_of_lt_of_le (shl_lt (prec f) (low f - l) small) (pow_mono (room (prec f) (low f) (suc (emax f)) l (reach f)))
    where
      room : (p w t l : ℕ) → p ≤ t → p + (w - l) ≤ w + t
      room p w t l h = omega arith

  pub exactly_fits : T (fits f (exactly s q l))
  exactly_fits =
      subst (λ (x : Float). T (fits f x))
      ((λ i. odd (size q) s q (sym (zero-add (low f - l)) i) (sym back i)) ∙ odd_shift (size q) s q 0 l (low f - l))
      (odd-fits f (size q) s q (low f - l) (size-lt q) (le_of_lt small) in_range)

  pub round_value : (num den : ℕ) → 0 < den → num * 2 ^ l ≡ q * den → HasValue (round f s num den) s num den
  round_value num den D e = round_exact f s num den q (low f - l) D small in_range (subst (λ (n : ℕ). num * 2 ^ n ≡ q * 2 ^ (low f - l) * den) back (lift l (low f - l) num q den e))

  pub round_exactly : (num den : ℕ) → 0 < den → num * 2 ^ l ≡ q * den → round f s num den ≡ exactly s q l
  round_exactly num den D e =
      value_unique f f (round f s num den) (exactly s q l) s num den D (round-fits f s num den) exactly_fits (round_value num den D e)
      (revalue (exactly s q l) s q (2 ^ l) num den (pow_pos l) (sym e) (exactly_value s q l))
