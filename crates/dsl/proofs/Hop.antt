-- A curve at a hop: i / h by a product and a shift, and what the reading is at the hop 1 and of a curve that is widened. Assumes nothing.
use Prim.Native.Nat.{ℕ, zero, suc, ◌+◌, ◌-◌, ◌*◌, ◌/◌, ◌^◌, ◌≤◌, ◌<◌}
use mathlib.Core.Path.{◌≡◌, refl, sym, ap, ◌∙◌}
use native.Mathlib.Nat.{le_trans, le_of_eq, mul_assoc, mul_right_comm, mul-add, add-mul, one-mul, mul-le-mul}
use native.Mathlib.Nat.{mul-le-mul_left, mul-le-mul_right, lt_of_mul-lt-mul_right, div-mul-le_self, div-lt_iff_lt-mul}
use native.Mathlib.Nat.{div-eq_of_lt, div-eq_of_lt-le, div-le_of_le-mul, div-eq-sub-div, div-one, mul-add-div_right}
use native.Mathlib.Numerals.{add-one}
use native.Mathlib.Omega.{arith}
use mathlib.Core.List.{List, [], ◌∷◌, ◌++◌}
use mathlib.Core.Bool.{Bool, true, false}
use borrow.Author.Tests.{ltb-true, ltb-false}
use lib.ListN.{length, get_or, replicate, length-replicate}
use lib.Seq.{get_or-append-add}
use lib.Dec.{ltb}
use lib.Ieee.{Float, nan}
use Rattle.dsl.specs.Pitch.{value_at, reading, pitch_at, reaches, widened}
use Rattle.dsl.specs.declared.pitch.Pitch.{Pitch}
use Rattle.dsl.specs.declared.pitch.Pitch.TheVariants.{Curve}
use Rattle.dsl.specs.declared.pitch.Reading.{Reading}

-- i / h is i × m / p, where m × h is p or more, and by so little more that i times it stays below p
module _ (h m p e i : ℕ) (some : 1 ≤ h) (least : p ≤ m * h) (most : m * h ≤ p + e) (small : i * e < p) where
  q : ℕ
  q = i / h

  under : q * p ≤ i * m
  unfolding q
  under = le_trans (mul-le-mul_left q least) (le_trans (le_of_eq (sym (mul_assoc q m h) ∙ mul_right_comm q m h)) (mul-le-mul_right m (div-mul-le_self i h)))

  next : i < (q + 1) * h
  unfolding q
  next = (div-lt_iff_lt-mul some).0 (omega arith)

  over : i * m < (q + 1) * p
  over =
      let times : i * m * h ≤ i * p + i * e = le_trans (le_of_eq (mul_assoc i m h)) (le_trans (mul-le-mul_left i most) (le_of_eq (mul-add i p e))) in
      let near : i + 1 ≤ (q + 1) * h = omega (arith, next) in
      let whole : (i + 1) * p ≤ (q + 1) * p * h = le_trans (mul-le-mul_right p near) (le_of_eq (mul_right_comm (q + 1) h p)) in
      let one : (i + 1) * p ≡ i * p + p = add-mul i 1 p ∙ ap (λ (x : ℕ). i * p + x) (one-mul p) in
      lt_of_mul-lt-mul_right h (omega (arith, times, whole, one, small))

  quotient_by : i * m / p ≡ i / h
  unfolding q
  quotient_by = div-eq_of_lt-le p under over

-- THE THEOREM: by the inverse of a hop of the domain, for each frame that a call can have
pub by_inverse : (h i : ℕ) → 1 ≤ h → h ≤ 4096 → i < 16777216 → i * ((2 ^ 40 + (h - 1)) / h) / 2 ^ 40 ≡ i / h
by_inverse h i some most few =
    let m = (2 ^ 40 + (h - 1)) / h in
    let cut : m * h ≤ 2 ^ 40 + (h - 1) = div-mul-le_self (2 ^ 40 + (h - 1)) h in
    let past : 2 ^ 40 + (h - 1) < (m + 1) * h = (div-lt_iff_lt-mul some).0 (omega arith) in
    let one : (m + 1) * h ≡ m * h + h = add-mul m 1 h ∙ ap (λ (x : ℕ). m * h + x) (one-mul h) in
    let i_most : i ≤ 16777215 = omega arith in
    let h_most : h - 1 ≤ 4095 = omega arith in
    let little : i * (h - 1) ≤ 16777215 * 4095 = mul-le-mul i_most h_most in
    quotient_by h m (2 ^ 40) (h - 1) i some (omega (arith, past, one)) cut (omega (arith, little))

-- frame i of a reading that reaches it
module _ (r : Reading) (l i : ℕ) (reached : reaches r l (i + 1)) where
  few : i < 16777216
  few = omega (arith, reached.few)

  inverse_is : r.inverse ≡ (2 ^ 40 + (r.hop - 1)) / r.hop
  inverse_is = ap (λ (x : Reading). x.inverse) reached.is

  inverse_most : r.inverse ≤ 2 ^ 40
  inverse_most = rw inverse_is (div-le_of_le-mul r.hop (let z : 2 ^ 40 + (r.hop - 1) ≤ r.hop * 2 ^ 40 = omega (arith, reached.least) in z))

  -- the product fits 64 bits
  pub product_fits : i * r.inverse < 2 ^ 64
  product_fits =
      let i_most : i ≤ 16777215 = omega (arith, few) in
      let most : i * r.inverse ≤ 16777215 * 2 ^ 40 = mul-le-mul i_most inverse_most in
      omega (arith, most)

  pub product_is : i * r.inverse / 2 ^ 40 ≡ i / r.hop
  product_is = rw inverse_is (by_inverse r.hop i reached.least reached.most few)

-- THE THEOREM: at the hop 1 a curve at frame i is the lane's value at offset + i
pub each_frame : (p : Pitch) (lane : List Float) (i : ℕ) → pitch_at (reading p 1) lane i ≡ value_at p lane i
unfolding pitch_at
each_frame p lane i = ap (value_at p lane) (div-one i)

repeated_at : (h j : ℕ) (x : Float) (ys : List Float) (d : Float) → j < h → get_or (replicate h x ++ ys) j d ≡ x
repeated_at zero j x ys d lt = absurd (omega arith)
repeated_at (suc h) zero x ys d lt = refl
repeated_at (suc h) (suc j) x ys d lt = repeated_at h j x ys d (omega arith)

-- value j of a widened curve
widened_at : (h : ℕ) → 1 ≤ h → (lane : List Float) (j : ℕ) (d : Float) → get_or (widened h lane) j d ≡ get_or lane (j / h) d
unfolding widened
widened_at h some [] j d = refl
widened_at h some (x ∷ xs) j d = by (ltb j h) (widened_at h some xs (j - h) d) refl
  where
    by : (t : Bool) → get_or (widened h xs) (j - h) d ≡ get_or xs ((j - h) / h) d → ltb j h ≡ t → get_or (replicate h x ++ widened h xs) j d ≡ get_or (x ∷ xs) (j / h) d
    by true rest e = let lt = ltb-true j h e in repeated_at h j x (widened h xs) d lt ∙ sym (ap (λ (k : ℕ). get_or (x ∷ xs) k d) (div-eq_of_lt lt))
    by false rest e =
        let le = ltb-false j h e in
        let past : j ≡ length (replicate h x) + (j - h) = omega (arith, length-replicate h x) in
        let next : j / h ≡ suc ((j - h) / h) = div-eq-sub-div some le ∙ add-one ((j - h) / h) in
        ap (λ (k : ℕ). get_or (replicate h x ++ widened h xs) k d) past ∙ get_or-append-add (replicate h x) (widened h xs) (j - h) d ∙ rest
        ∙ sym (ap (λ (k : ℕ). get_or (x ∷ xs) k d) next)

-- THE THEOREM: a curve at the hop h is the widened one, read in each frame
pub as_widened : (h : ℕ) → 1 ≤ h → (offset : ℕ) (lane : List Float) (i : ℕ) → pitch_at (reading (Curve offset) h) lane i ≡ pitch_at (reading (Curve (offset * h)) 1) (widened h lane) i
unfolding pitch_at value_at
as_widened h some offset lane i =
    sym (ap (λ (k : ℕ). get_or (widened h lane) (offset * h + k) nan) (div-one i) ∙ widened_at h some lane (offset * h + i) nan
    ∙ ap (λ (k : ℕ). get_or lane k nan) (mul-add-div_right some offset i))
