-- frame / rate < c in f32, where c is the f32 nearest to p / q seconds: at every rate of the domain it holds exactly where q × frame < p × rate, so of the first
-- frames, p × rate / q of them rounded up, and of no other. A frame below p / q is at most p / q less 1 / (q × 192,000), which is no more than the f32 before c, so
-- it rounds to at most that. Any other frame is at least p / q, which rounds to c. Assumes nothing.
use Rattle.std.proofs.Common.{◌≡◌, ℕ, zero, suc, ◌+◌, ◌-◌, ◌*◌, ◌/◌, ◌^◌, ◌<◌, ◌≤◌, min, Bool, true, false, cond, T, ltb, leb, sym, refl, ap, ◌∙◌, le_trans, le_of_eq, lt_of_lt_of_le}
use Rattle.std.proofs.Common.{le_of_lt, mul-le-mul_right, zero-lt-suc, mul_assoc, mul_comm, add-mul, mul-le-mul_left, mul-lt-mul_of_pos_right, one-mul, le-div_iff_mul-le, mul-suc}
use Rattle.std.proofs.Common.{mul_right_comm, arith, ltb→lt, lt→ltb, leb→le, pow_pos, ltb-false, ltb-true}
use native.Mathlib.Nat.{le_of_mul-le-mul_left}
use lib.Ieee.{Float, binary32, lt, round, odd, size, of_bits}
use lib.Ieee.Exact.{HasValue}
use Rattle.ieee.specs.Numbers.{c0·002, c0·003, c0·004, c0·006, c0·018, f32}
use Rattle.ieee.specs.Binary32.{◌⊘◌}
use Rattle.ieee.proofs.Value.{same_test}
use Rattle.ieee.proofs.Exactly.{round_value}
use Rattle.ieee.proofs.Bounds.{at_most_lt, at_least_lt}
use Rattle.ieee.proofs.Range.{div_at_most, div_at_least}
use Rattle.dsl.specs.Domain.{Rate}
use Rattle.counts.specs.Draws.{frames_within, passing}
use Rattle.dsl.proofs.Exact.{f32_value, rate_value, rate_pos}

-- c is (num + 1) / 2^places, the f32 nearest to p / q, and num / 2^places is an f32, so the one before c; it falls short of p / q by at most
-- gap / (q × 2^places), and that is at most 1 / (q × 192,000).
pub record Fraction (c : Float) (p q : ℕ) : Type 0 where
  pub num : ℕ
  pub places : ℕ
  pub gap : ℕ
  pub value : HasValue c false (suc num) (2 ^ places)
  pub nearest : HasValue (round binary32 false p q) false (suc num) (2 ^ places)
  pub short : num < 2 ^ 24
  pub fine : places ≤ 149
  pub near : p * 2 ^ places ≤ q * num + gap
  pub small : 192000 * gap ≤ 2 ^ places
  pub part : 0 < q

-- all of it computes
fraction :
    {c : Float} {p q : ℕ} (num places gap : ℕ) →
    HasValue c false (suc num) (2 ^ places) →
    HasValue (round binary32 false p q) false (suc num) (2 ^ places) →
    T (ltb num (2 ^ 24)) × T (leb places 149) × T (leb (p * 2 ^ places) (q * num + gap)) × T (leb (192000 * gap) (2 ^ places)) × T (ltb 0 q) →
    Fraction c p q
fraction num places gap v w t = record {
  num = num;
  places = places;
  gap = gap;
  value = v;
  nearest = w;
  short = ltb→lt _ _ t.0;
  fine = leb→le _ _ t.1;
  near = leb→le _ _ t.2;
  small = leb→le _ _ t.3;
  part = ltb→lt _ _ t.4;
}

-- the piano's thump
pub c0·006_fraction : Fraction c0·006 3 500
unfolding of_bits round odd size
c0·006_fraction = fraction 12884901 31 444 (refl, refl) (refl, refl) (tt, tt, tt, tt, tt)

-- the noises of the drum kit: 2, 3, 4 and 18 thousandths of a second
pub c0·002_fraction : Fraction c0·002 2 1000
unfolding of_bits round odd size
c0·002_fraction = fraction 8589934 32 592 (refl, refl) (refl, refl) (tt, tt, tt, tt, tt)

pub c0·003_fraction : Fraction c0·003 3 1000
unfolding of_bits round odd size
c0·003_fraction = fraction 12884901 32 888 (refl, refl) (refl, refl) (tt, tt, tt, tt, tt)

pub c0·004_fraction : Fraction c0·004 4 1000
unfolding of_bits round odd size
c0·004_fraction = fraction 8589934 31 592 (refl, refl) (refl, refl) (tt, tt, tt, tt, tt)

pub c0·018_fraction : Fraction c0·018 18 1000
unfolding of_bits round odd size
c0·018_fraction = fraction 9663675 29 1416 (refl, refl) (refl, refl) (tt, tt, tt, tt, tt)

-- ---- on which side i / rate lies
early : (i rate p q b d M : ℕ) → 0 < q → rate ≤ 192000 → q * i < p * rate → p * M ≤ q * b + d → 192000 * d ≤ M → i * 1 * M ≤ b * (rate * 1)
early i rate p q b d M Q most h near small =
    let one_more : (q * i + 1) * M ≡ q * i * M + M = add-mul (q * i) 1 M ∙ ap (λ (x : ℕ). q * i * M + x) (one-mul M) in
    let less : q * i * M + M ≤ p * M * rate = le_trans (le_of_eq (sym one_more)) (le_trans (mul-le-mul_right M (after i rate p q h)) (le_of_eq (mul_right_comm p rate M))) in
    let far : p * M * rate ≤ q * b * rate + d * rate = le_trans (mul-le-mul_right rate near) (le_of_eq (add-mul (q * b) d rate)) in
    let gap : d * rate ≤ d * 192000 = mul-le-mul_left d most in
    let both : q * i * M ≤ q * b * rate = omega arith in
    let one : i * M ≤ b * rate = le_of_mul-le-mul_left (le_trans (le_of_eq (sym (mul_assoc q i M))) (le_trans both (le_of_eq (mul_assoc q b rate)))) Q in
    plain (i * M) (b * rate) i rate M b refl refl one
  where
    after : (i rate p q : ℕ) → q * i < p * rate → q * i + 1 ≤ p * rate
    after i rate p q h = omega arith

    plain : (x y i rate M b : ℕ) → x ≡ i * M → y ≡ b * rate → x ≤ y → i * 1 * M ≤ b * (rate * 1)
    plain x y i rate M b e g l =
        let a : i * 1 ≡ i = omega arith in
        let c : rate * 1 ≡ rate = omega arith in
        rw (a, c, ← e, ← g) l

pub passing_first : (test : ℕ → Bool) (h n : ℕ) → ((i : ℕ) → i < n → test i ≡ ltb i h) → passing test n ≡ min n h
unfolding passing
passing_first test h zero p = omega arith
passing_first test h (suc n) p = go (ltb n h) refl (p n (omega arith)) (passing_first test h n (λ i l. p i (omega arith)))
  where
    go : (b : Bool) → ltb n h ≡ b → test n ≡ ltb n h → passing test n ≡ min n h → cond (test n) (suc (passing test n)) (passing test n) ≡ min (suc n) h
    go true e t c = let l : n < h = ltb-true n h e in rw (t, e) (omega arith)
    go false e t c = let l : h ≤ n = ltb-false n h e in rw (t, e) (omega arith)

module _ {c : Float} {p q : ℕ} (w : Fraction c p q) where
  module _ (rate i : ℕ) (r : Rate rate) (fits : i < 2 ^ 24) where
    below : q * i < p * rate → lt (f32 i ⊘ f32 rate) c ≡ true
    below h =
        let den = 2 ^ w.places in
        let before : HasValue (round binary32 false w.num den) false w.num den = round_value binary32 false w.num w.places w.short w.fine w.num den (pow_pos w.places) refl in
        at_most_lt (f32 i ⊘ f32 rate) c w.num den (suc w.num) den w.value (mul-lt-mul_of_pos_right (next w.num) (pow_pos w.places))
        (div_at_most binary32 (f32 i) (f32 rate) i 1 rate 1 (zero-lt-suc 0) (rate_pos rate r) (zero-lt-suc 0) (f32_value i (le_of_lt fits)) (rate_value rate r)
        w.num den w.num den (pow_pos w.places) before (early i rate p q w.num w.gap den w.part r.most h w.near w.small))
      where
        next : (n : ℕ) → n < suc n
        next n = omega arith

    above : p * rate ≤ q * i → lt (f32 i ⊘ f32 rate) c ≡ false
    above h =
        let den = 2 ^ w.places in
        at_least_lt (f32 i ⊘ f32 rate) c (suc w.num) den (pow_pos w.places) w.value
        (div_at_least binary32 (f32 i) (f32 rate) i 1 rate 1 (zero-lt-suc 0) (rate_pos rate r) (zero-lt-suc 0) (f32_value i (le_of_lt fits)) (rate_value rate r)
        p q (suc w.num) den w.part w.nearest (zero-lt-suc w.num) (late i rate p q h))
      where
        late : (i rate p q : ℕ) → p * rate ≤ q * i → p * (rate * 1) ≤ i * 1 * q
        late i rate p q h =
            let a : i * 1 ≡ i = omega arith in
            let c : rate * 1 ≡ rate = omega arith in
            rw (a, c) (le_trans h (le_of_eq (mul_comm q i)))

    -- the test on f32 is the test on whole numbers
    pub early_is : lt (f32 i ⊘ f32 rate) c ≡ ltb (q * i) (p * rate)
    early_is = go (ltb (q * i) (p * rate)) refl
      where
        go : (b : Bool) → ltb (q * i) (p * rate) ≡ b → lt (f32 i ⊘ f32 rate) c ≡ ltb (q * i) (p * rate)
        go true e = below (ltb-true (q * i) (p * rate) e) ∙ sym e
        go false e = above (ltb-false (q * i) (p * rate) e) ∙ sym e

    -- so the frames that pass it are the first ones
    pub early_first : lt (f32 i ⊘ f32 rate) c ≡ ltb i (frames_within p q rate)
    early_first =
        early_is
        ∙ same_test (ltb (q * i) (p * rate)) (ltb i (frames_within p q rate)) (λ t. lt→ltb i (frames_within p q rate) (up i q (p * rate) w.part (ltb→lt (q * i) (p * rate) t)))
        (λ t. lt→ltb (q * i) (p * rate) (down i q (p * rate) w.part (ltb→lt i (frames_within p q rate) t)))
      where
        raised : (i q x : ℕ) → 0 < q → q * i < x → suc i * q ≡ q * i + q → suc i * q ≤ x + (q - 1)
        raised i q x Q h e = omega arith

        lowered : (i q x : ℕ) → 0 < q → suc i * q ≤ x + (q - 1) → suc i * q ≡ q * i + q → q * i < x
        lowered i q x Q h e = omega arith

        up : (i q x : ℕ) → 0 < q → q * i < x → i < (x + (q - 1)) / q
        up i q x Q h = (le-div_iff_mul-le Q).1 (raised i q x Q h (mul_comm (suc i) q ∙ mul-suc q i))

        down : (i q x : ℕ) → 0 < q → i < (x + (q - 1)) / q → q * i < x
        down i q x Q h = lowered i q x Q ((le-div_iff_mul-le Q).0 h) (mul_comm (suc i) q ∙ mul-suc q i)

  -- and how many of the first n they are
  pub early_count : (rate n : ℕ) → Rate rate → n ≤ 2 ^ 24 → passing (λ i. lt (f32 i ⊘ f32 rate) c) n ≡ min n (frames_within p q rate)
  early_count rate n r h = passing_first (λ i. lt (f32 i ⊘ f32 rate) c) (frames_within p q rate) n (λ i l. early_first rate i r (lt_of_lt_of_le l h))
