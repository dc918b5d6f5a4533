-- The order by cross-multiplication is the order of fractions: brought to any common denominator, the numerators decide. Assumes nothing.
use Rattle.std.proofs.Common.{◌≡◌, ℕ, zero, suc, ◌-◌, ◌*◌, ◌<◌, ◌≤◌, Bool, true, false, ltb, ℤ, pos, negsuc, ◌*ℤ◌, neg_ℤ, sym, refl, ap, ◌∙◌, le_of_eq, lt_of_lt_of_le, lt_of_le_of_lt}
use Rattle.std.proofs.Common.{mul_assoc, mul_comm, lt_of_mul-lt-mul_right, mul-lt-mul_of_pos_right, mul-pos, arith, ltb-false, ltb-true, le-ltb, lt-ltb}
use lib.Signed.{lt_z}
use Rattle.beat.specs.Beat.{lt_beat}
use Rattle.beat.specs.declared.beat.Beat.{Beat}

clash : (x y : ℕ) → y ≤ x → x < y → ⊥
clash x y h k = omega arith

-- m / b < n / d by their cross products, and by m * k and n * l over the denominator b * k, which is d * l
module _ (m n b d k l : ℕ) (c : b * k ≡ d * l) where
  -- (m * d) * k is less than (n * b) * k exactly where (m * k) * d is less than (n * l) * d
  left : m * d * k ≡ m * k * d
  left = mul_assoc m d k ∙ ap (λ (x : ℕ). m * x) (mul_comm d k) ∙ sym (mul_assoc m k d)

  right : n * b * k ≡ n * l * d
  right = mul_assoc n b k ∙ ap (λ (x : ℕ). n * x) (c ∙ mul_comm d l) ∙ sym (mul_assoc n l d)

  over : 0 < k → m * d < n * b → m * k < n * l
  over p h = lt_of_mul-lt-mul_right d (lt_of_le_of_lt (le_of_eq (sym left)) (lt_of_lt_of_le (mul-lt-mul_of_pos_right h p) (le_of_eq right)))

  back : 0 < d → m * k < n * l → m * d < n * b
  back p h = lt_of_mul-lt-mul_right k (lt_of_le_of_lt (le_of_eq left) (lt_of_lt_of_le (mul-lt-mul_of_pos_right h p) (le_of_eq (sym right))))

  pub decide : 0 < k → 0 < d → ltb (m * d) (n * b) ≡ ltb (m * k) (n * l)
  decide p q = by (ltb (m * d) (n * b)) refl
    where
      by : (t : Bool) → ltb (m * d) (n * b) ≡ t → ltb (m * d) (n * b) ≡ ltb (m * k) (n * l)
      by true e = e ∙ sym (lt-ltb (m * k) (n * l) (over p (ltb-true (m * d) (n * b) e)))
      by false e = e ∙ sym (other (ltb (m * k) (n * l)) refl)
        where
          other : (t : Bool) → ltb (m * k) (n * l) ≡ t → ltb (m * k) (n * l) ≡ false
          other true f = absurd (clash (m * d) (n * b) (ltb-false (m * d) (n * b) e) (back q (ltb-true (m * k) (n * l) f)))
          other false f = f

-- a product below zero
below_0 : (x : ℕ) → 0 < x → neg_ℤ (pos x) ≡ negsuc (x - 1)
below_0 zero h = absurd (omega arith)
below_0 (suc x) h = ap negsuc (omega arith)

less_1 : (x y : ℕ) → 0 < x → 0 < y → ltb (y - 1) (x - 1) ≡ ltb y x
less_1 zero y h k = absurd (omega arith)
less_1 (suc x) zero h k = absurd (omega arith)
less_1 (suc x) (suc y) h k = by (ltb (suc y) (suc x)) refl
  where
    by : (t : Bool) → ltb (suc y) (suc x) ≡ t → ltb (suc y - 1) (suc x - 1) ≡ ltb (suc y) (suc x)
    by true e = lt-ltb (suc y - 1) (suc x - 1) (omega (arith, ltb-true (suc y) (suc x) e)) ∙ sym e
    by false e = le-ltb (suc y - 1) (suc x - 1) (omega (arith, ltb-false (suc y) (suc x) e)) ∙ sym e

lt_neg : (x y : ℕ) → 0 < x → 0 < y → lt_z (neg_ℤ (pos x)) (neg_ℤ (pos y)) ≡ ltb y x
lt_neg x y h k = rw (below_0 x h, below_0 y k) (less_1 x y h k)

neg_below : (x y : ℕ) → 0 < x → lt_z (neg_ℤ (pos x)) (pos y) ≡ true
neg_below x y h = rw (below_0 x h)

neg_above : (x y : ℕ) → 0 < y → lt_z (pos x) (neg_ℤ (pos y)) ≡ false
neg_above x y h = rw (below_0 y h)

cross_decides : (p q : ℤ) (b d k l : ℕ) → 0 < b → 0 < d → 0 < k → 0 < l → b * k ≡ d * l → lt_z (p *ℤ pos d) (q *ℤ pos b) ≡ lt_z (p *ℤ pos k) (q *ℤ pos l)
cross_decides (pos m) (pos n) b d k l B D K L c = decide m n b d k l c K D
cross_decides (pos m) (negsuc n) b d k l B D K L c =
    neg_above (m * d) (suc n * b) (mul-pos (omega arith) B) ∙ sym (neg_above (m * k) (suc n * l) (mul-pos (omega arith) L))
cross_decides (negsuc m) (pos n) b d k l B D K L c =
    neg_below (suc m * d) (n * b) (mul-pos (omega arith) D) ∙ sym (neg_below (suc m * k) (n * l) (mul-pos (omega arith) K))
cross_decides (negsuc m) (negsuc n) b d k l B D K L c =
    lt_neg (suc m * d) (suc n * b) (mul-pos (omega arith) D) (mul-pos (omega arith) B) ∙ decide (suc n) (suc m) d b l k (sym c) L B
    ∙ sym (lt_neg (suc m * k) (suc n * l) (mul-pos (omega arith) K) (mul-pos (omega arith) L))

-- a is num * k over the denominator that b has with num * l
pub common : (a b : Beat) (k l : ℕ) → 0 < a.den → 0 < b.den → 0 < k → 0 < l → a.den * k ≡ b.den * l → lt_beat a b ≡ lt_z (a.num *ℤ pos k) (b.num *ℤ pos l)
unfolding lt_beat
common a b k l A B K L c = cross_decides a.num b.num a.den b.den k l A B K L c
