-- The loops that judge the points of a tempo map, each point by itself and each with the one before it. Assumes nothing.
use Rattle.std.proofs.Common.{◌≡◌, ℕ, zero, suc, ◌-◌, ◌^◌, ◌<◌, ◌≤◌, Bool, true, false, cond, eqb, ltb, List, [], ◌∷◌, length, get_or, drop, ℤ, pos, negsuc, nat_abs, sym, refl, ap, ◌∙◌}
use Rattle.std.proofs.Common.{arith, length-drop, w64, SFits, of_z, ltb-false, ltb-true, le-ltb, lt-ltb, ne_eqb}
use lib.Signed.{lt_z}
use Rattle.tempo.specs.Map.{points}
use Rattle.tempo.specs.Judge.{fine_at, all_of, chain, begins_at_zero, in_domain}
use Rattle.tempo.specs.declared.map.TempoPoint.{TempoPoint}
use Rattle.tempo.specs.declared.map.TempoMap.{TempoMap}
use Rattle.tempo.proofs.Walking.{taken, ahead_of, past_all}

clash : {X : Type 0} → true ≡ false → X
clash e = let z : ◌≡◌ {A = ℕ} 0 1 = cc in absurd (omega arith)

-- ---- each by itself
module _ (test : TempoPoint → Bool) (m : TempoMap) (i : ℕ) where
  module _ (lt : i < length (points m)) (d : TempoPoint) {b : Bool} (e : b ≡ test (get_or m.points i d)) where
    pub all_more : b ≡ true → all_of test (drop (suc i) (points m)) ≡ all_of test (drop i (points m))
    unfolding all_of
    all_more t = rw (ahead_of m i lt d, ← e, t)

    pub all_fails : b ≡ false → false ≡ all_of test (drop i (points m))
    unfolding all_of
    all_fails t = rw (ahead_of m i lt d, ← e, t)

  pub all_end : length (points m) ≤ i → true ≡ all_of test (drop i (points m))
  unfolding all_of
  all_end h = rw (past_all m i h)

-- what all pass, each passes
cond_true : (b r : Bool) → cond b r false ≡ true → (b ≡ true) × (r ≡ true)
cond_true true r e = (refl, e)
cond_true false r e = clash (sym e)

all_at : {Y : Type 0} (test : Y → Bool) (l : List Y) → all_of test l ≡ true → (i : ℕ) → i < length l → (d : Y) → test (get_or l i d) ≡ true
unfolding all_of
all_at test [] e i lt d = absurd (omega arith)
all_at test (y ∷ ys) e zero lt d = (cond_true (test y) (all_of test ys) e).0
all_at test (y ∷ ys) e (suc i) lt d = all_at test ys (cond_true (test y) (all_of test ys) e).1 i (omega arith) d

pub each_passes_lem : (test : TempoPoint → Bool) (m : TempoMap) → all_of test (points m) ≡ true → (i : ℕ) → i < length (points m) → (d : TempoPoint) → test (get_or m.points i d) ≡ true
each_passes_lem test m e i lt d = ap test (sym (taken m i lt d)) ∙ all_at test (points m) e i lt d

-- ---- each with the one before it
short : {Y : Type 0} (test : Y → Y → Bool) (l : List Y) → length l ≤ 1 → chain test l ≡ true
unfolding chain
short test [] h = refl
short test (x ∷ []) h = refl
short test (x ∷ y ∷ ys) h = absurd (omega arith)

module _ (test : TempoPoint → TempoPoint → Bool) (m : TempoMap) (i : ℕ) (least : 1 ≤ i) where
  module _ (lt : i < length (points m)) (d : TempoPoint) where
    two : chain test (drop (i - 1) (points m)) ≡ cond (test (get_or m.points (i - 1) d) (get_or m.points i d)) (chain test (drop i (points m))) false
    unfolding chain
    two =
        let up : suc (i - 1) ≡ i = omega arith in
        let a : drop (i - 1) (points m) ≡ get_or m.points (i - 1) d ∷ drop i (points m) = rw up at (ahead_of m (i - 1) (omega arith) d) in
        let b = ahead_of m i lt d in
        ap (chain test) (a ∙ ap (λ (l : List TempoPoint). get_or m.points (i - 1) d ∷ l) b)
        ∙ ap (λ (l : List TempoPoint). cond (test (get_or m.points (i - 1) d) (get_or m.points i d)) (chain test l) false) (sym b)

    module _ {b : Bool} (e : b ≡ test (get_or m.points (i - 1) d) (get_or m.points i d)) where
      pub chain_more : b ≡ true → chain test (drop i (points m)) ≡ chain test (drop (i - 1) (points m))
      chain_more t = sym (rw (← e, t) at two)

      pub chain_fails : b ≡ false → false ≡ chain test (drop (i - 1) (points m))
      chain_fails t = sym (rw (← e, t) at two)

  pub chain_end : length (points m) ≤ i → true ≡ chain test (drop (i - 1) (points m))
  chain_end h = sym (short test (drop (i - 1) (points m)) (simp length-drop (omega arith)))

-- ---- one point
pub size_above : (z : ℤ) → lt_z (pos 1000000000) z ≡ true → ltb 1000000000 (nat_abs z) ≡ true
size_above (pos n) e = e
size_above (negsuc n) e = clash (sym e)

pub size_below : (z : ℤ) → lt_z z (negsuc 999999999) ≡ true → ltb 1000000000 (nat_abs z) ≡ true
size_below (pos n) e = clash (sym e)
size_below (negsuc n) e = lt-ltb 1000000000 (suc n) (omega (arith, ltb-true 999999999 n e))

pub size_within : (z : ℤ) → lt_z (pos 1000000000) z ≡ false → lt_z z (negsuc 999999999) ≡ false → ltb 1000000000 (nat_abs z) ≡ false
size_within (pos n) e f = e
size_within (negsuc n) e f = le-ltb 1000000000 (suc n) (omega (arith, ltb-false 999999999 n f))

cond_fine : (b c : Bool) (r : Bool) → cond b false (cond c false r) ≡ true → c ≡ false
cond_fine true c r e = clash (sym e)
cond_fine false true r e = clash (sym e)
cond_fine false false r e = refl

pub fine_size : (p : TempoPoint) → fine_at p ≡ true → nat_abs p.at.num ≤ 1000000000
unfolding fine_at
fine_size p e = ltb-false 1000000000 (nat_abs p.at.num) (cond_fine (eqb p.at.den 0) (ltb 1000000000 (nat_abs p.at.num)) _ e)

-- ---- the first point
-- the machine's number is 0
pub bits_zero : (z : ℤ) → SFits w64 z → eqb (of_z w64 z) 0 ≡ eqb (nat_abs z) 0
bits_zero (pos n) s = refl
bits_zero (negsuc n) s = ne_eqb (2 ^ 64 - suc n) 0 (λ e. absurd (omega (arith, s.sfits, e))) ∙ sym (ne_eqb (suc n) 0 (λ e. absurd (omega (arith, e))))

pub begins : (m : TempoMap) (d : TempoPoint) → 0 < length (points m) → begins_at_zero (points m) ≡ eqb (nat_abs (get_or m.points 0 d).at.num) 0
unfolding begins_at_zero
begins m d h = rw (ahead_of m 0 h d)

pub begins_none : (m : TempoMap) → m.count ≡ 0 → true ≡ begins_at_zero (points m)
unfolding begins_at_zero
begins_none m e = rw e

-- ---- the whole map
pub domain_fine : (m : TempoMap) → in_domain m ≡ true → all_of fine_at (points m) ≡ true
unfolding in_domain
domain_fine m e = by (ltb 64 m.count) (all_of fine_at (points m)) e
  where
    by : (b r : Bool) → cond b false r ≡ true → r ≡ true
    by true r e = clash (sym e)
    by false r e = e
