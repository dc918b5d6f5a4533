-- Two beats in lowest terms of one fraction are one beat (`reduced_unique`). Assumes nothing.
use Rattle.std.proofs.Common.{◌≡◌, ℕ, zero, suc, ◌+◌, ◌-◌, ◌*◌, ◌<◌, ◌≤◌, Bool, true, false, ltb, ℤ, pos, negsuc, ◌*ℤ◌, nat_abs, sym, refl, ap, ◌∙◌, subst, mul_comm, add-mul, mul-pos}
use Rattle.std.proofs.Common.{one-mul, mul-zero, zero-mul, mul-one, mul-add, mul_right_comm, le_of_mul-le-mul_right, arith, ltb-false, ltb-true}
use Prim.Native.Nat.{◌∣◌}
use native.Mathlib.Nat.{dvd_refl, dvd-zero, dvd-add, dvd-mul_right, eq_of_mul-eq-mul_right}
use lib.Signed.{non_neg}
use Rattle.beat.specs.Beat.{Reduced}
use Rattle.beat.specs.declared.beat.Beat.{Beat}
use Rattle.beat.proofs.Lowest.{size_neg}
use Rattle.beat.proofs.Same.{sign_neg, clash}

-- n / d is in lowest terms
abbrev Lowest : ℕ → ℕ → Type 0
Lowest n d = (k : ℕ) → k ∣ n → k ∣ d → k ≡ 1

-- the terms of m / e are those of n / d, each k times
record Times (n d m e : ℕ) : Type 0 where
  k : ℕ
  num : m ≡ k * n
  den : e ≡ k * d

-- of sums and products as atoms
rest_least : (a b c x y : ℕ) → x ≡ a + b → x ≡ y → b ≤ y
rest_least a b c x y s h = omega arith

rest_same : (a b c x y : ℕ) → x ≡ a + b → y ≡ c + b → x ≡ y → a ≡ c
rest_same a b c x y s t h = omega arith

-- one step of Euclid's: where the fractions are one, they are one less 1, and so are their inverses
module _ (f : ℕ) (ih : (n d m e : ℕ) → n + d ≤ f → 0 < d → Lowest n d → n * e ≡ m * d → Times n d m e) (n d m e : ℕ) (N : 0 < n) (D : 0 < d) (le : n + d ≤ suc f)
    (low : Lowest n d) (h : n * e ≡ m * d) where
  less_1 : d ≤ n → Times n d m e
  less_1 g =
      let nb : n - d + d ≡ n = omega arith in
      let s : n * e ≡ (n - d) * e + e * d = ap (λ (z : ℕ). z * e) (sym nb) ∙ add-mul (n - d) d e ∙ ap (λ (z : ℕ). (n - d) * e + z) (mul_comm d e) in
      let l : e ≤ m = le_of_mul-le-mul_right (rest_least ((n - d) * e) (e * d) 0 (n * e) (m * d) s h) D in
      let mb : m - e + e ≡ m = omega (arith, l) in
      let t : m * d ≡ (m - e) * d + e * d = ap (λ (z : ℕ). z * d) (sym mb) ∙ add-mul (m - e) e d in
      let few : n - d + d ≤ f = omega (arith, nb, le, D) in
      let r = ih (n - d) d (m - e) e few D (λ k p q. low k (subst (λ (z : ℕ). k ∣ z) nb (dvd-add k p q)) q) (rest_same ((n - d) * e) (e * d) ((m - e) * d) (n * e) (m * d) s t h) in
      record {
        k = r.k;
        num = sym mb ∙ ap (λ (z : ℕ). z + e) r.num ∙ ap (λ (z : ℕ). r.k * (n - d) + z) r.den ∙ sym (mul-add r.k (n - d) d) ∙ ap (λ (z : ℕ). r.k * z) nb;
        den = r.den;
      }

  inverse_less_1 : n < d → Times n d m e
  inverse_less_1 g =
      let db : d - n + n ≡ d = omega arith in
      let s : m * d ≡ m * (d - n) + m * n = ap (λ (z : ℕ). m * z) (sym db) ∙ mul-add m (d - n) n in
      let l : m ≤ e = le_of_mul-le-mul_right (subst (λ (z : ℕ). m * n ≤ z) (sym h ∙ mul_comm n e) (rest_least (m * (d - n)) (m * n) 0 (m * d) (m * d) s refl)) N in
      let eb : e - m + m ≡ e = omega (arith, l) in
      let t : n * e ≡ n * (e - m) + m * n = ap (λ (z : ℕ). n * z) (sym eb) ∙ mul-add n (e - m) m ∙ ap (λ (z : ℕ). n * (e - m) + z) (mul_comm n m) in
      let few : n + (d - n) ≤ f = omega (arith, db, le, N) in
      let some : 0 < d - n = omega (arith, g) in
      let r = ih n (d - n) m (e - m) few some (λ k p q. low k p (subst (λ (z : ℕ). k ∣ z) db (dvd-add k q p))) (rest_same (n * (e - m)) (m * n) (m * (d - n)) (n * e) (m * d) t s h) in
      record {
        k = r.k;
        num = r.num;
        den = sym eb ∙ ap (λ (z : ℕ). z + m) r.den ∙ ap (λ (z : ℕ). r.k * (d - n) + z) r.num ∙ sym (mul-add r.k (d - n) n) ∙ ap (λ (z : ℕ). r.k * z) db;
      }

  step : Times n d m e
  step = by (ltb n d) refl
    where
      by : (t : Bool) → ltb n d ≡ t → Times n d m e
      by true g = inverse_less_1 (ltb-true n d g)
      by false g = less_1 (ltb-false n d g)

times : (f n d m e : ℕ) → n + d ≤ f → 0 < d → Lowest n d → n * e ≡ m * d → Times n d m e
times zero n d m e le D low h = absurd (omega arith)
times (suc f) zero d m e le D low h =
    let one : d ≡ 1 = low d (dvd-zero d) (dvd_refl d) in
    let none : m * d ≡ 0 = sym h ∙ zero-mul e in
    record { k = e; num = sym (mul-one m) ∙ ap (λ (z : ℕ). m * z) (sym one) ∙ none ∙ sym (mul-zero e); den = sym (ap (λ (z : ℕ). e * z) one ∙ mul-one e) }
times (suc f) (suc n) d m e le D low h = step f (λ n d m e. times f n d m e) (suc n) d m e (omega arith) D le low h

size_times : (z : ℤ) (d : ℕ) → nat_abs (z *ℤ pos d) ≡ nat_abs z * d
size_times (pos n) d = refl
size_times (negsuc n) d = size_neg (suc n * d)

-- two fractions that are N / D are one
crossed : (n d m e N D : ℕ) → 0 < D → n * D ≡ N * d → m * D ≡ N * e → n * e ≡ m * d
crossed n d m e N D p h g =
    eq_of_mul-eq-mul_right D p (n * e) (m * d)
    (mul_right_comm n e D ∙ ap (λ (z : ℕ). z * e) h ∙ mul_right_comm N d e ∙ ap (λ (z : ℕ). z * d) (sym g) ∙ mul_right_comm m D d)

cancel : (x y : ℤ) (d : ℕ) → 0 < d → x *ℤ pos d ≡ y *ℤ pos d → x ≡ y
cancel (pos a) (pos b) d D e = ap pos (eq_of_mul-eq-mul_right d D a b (ap nat_abs e))
cancel (pos a) (negsuc b) d D e = absurd (clash (ap non_neg e ∙ sign_neg (suc b * d) (mul-pos (omega arith) D)))
cancel (negsuc a) (pos b) d D e = absurd (clash (sym (ap non_neg e) ∙ sign_neg (suc a * d) (mul-pos (omega arith) D)))
cancel (negsuc a) (negsuc b) d D e =
    let same : suc a ≡ suc b = eq_of_mul-eq-mul_right d D (suc a) (suc b) (sym (size_neg (suc a * d)) ∙ ap nat_abs e ∙ size_neg (suc b * d)) in
    let inner : a ≡ b = omega (arith, same) in
    ap negsuc inner

module _ (num : ℤ) (den : ℕ) (some : 0 < den) where
  same_den : (b c : Beat) → Reduced num den b → Reduced num den c → b.den ≡ c.den
  same_den b c r s =
      let first = sym (size_times b.num den) ∙ ap nat_abs r.same ∙ size_times num b.den in
      let second = sym (size_times c.num den) ∙ ap nat_abs s.same ∙ size_times num c.den in
      let t = times (nat_abs b.num + b.den) (nat_abs b.num) b.den (nat_abs c.num) c.den (omega arith) r.positive r.lowest
      (crossed (nat_abs b.num) b.den (nat_abs c.num) c.den (nat_abs num) den some first second) in
      let above : t.k ∣ nat_abs c.num = subst (λ (z : ℕ). t.k ∣ z) (sym t.num) (dvd-mul_right t.k (nat_abs b.num)) in
      let below : t.k ∣ c.den = subst (λ (z : ℕ). t.k ∣ z) (sym t.den) (dvd-mul_right t.k b.den) in
      let one : t.k ≡ 1 = s.lowest t.k above below in
      sym (t.den ∙ ap (λ (z : ℕ). z * b.den) one ∙ one-mul b.den)

  pub reduced_unique : (b c : Beat) → Reduced num den b → Reduced num den c → b ≡ c
  reduced_unique b c r s =
      let d : b.den ≡ c.den = same_den b c r s in
      let n : b.num ≡ c.num = cancel b.num c.num den some (r.same ∙ ap (λ (z : ℕ). num *ℤ pos z) d ∙ sym s.same) in
      λ i. record { num = n i; den = d i }
