-- What `unit` and `bi` compute is exact at every step; the value of a `bi`, in the words of 01, and that it is never 1. Assumes nothing.
use Rattle.std.proofs.Common.{◌≡◌, ℕ, ◌+◌, ◌-◌, ◌*◌, ◌^◌, ◌<◌, ◌≤◌, Bool, true, false, cond, not, T, ltb, pos, sym, refl, ◌∙◌, subst, lt_of_lt_of_le, le_of_lt, zero-lt-suc, mul-pos}
use Rattle.std.proofs.Common.{le-add_left, arith, lit≤, ltb→lt, lt→ltb, nltb→le, pow_pos, le-ltb, lt-ltb}
use lib.Ieee.{Float, fin, binary32, round, sum, sub, neg, mul, div, of_int, of_bits, lt, below, up, down}
use lib.Ieee.Fits.{down_pos}
use lib.Ieee.Exact.{HasValue}
use lib.Ieee.Back.{round_whole}
use Rattle.ieee.specs.Whole.{exactly}
use Rattle.ieee.proofs.Value.{mul_value, div_value, add_value, lt_value}
use Rattle.ieee.proofs.Exactly.{exactly_value, round_value, round_exactly}
use Rattle.rng.specs.Draw.{unit_of, bi_of}

module _ (k : ℕ) (h : k < 2 ^ 24) where
  whole_value : HasValue (of_int binary32 (pos k)) false k 1
  unfolding of_int
  whole_value = round_whole binary32 false k (le_of_lt h)

  over : k * 1 * 2 ^ 24 ≡ k * (2 ^ 24 * 1)
  over = omega arith

  -- as the code of `unit` computes it
  pub unit_is : div binary32 (of_int binary32 (pos k)) (of_bits binary32 0x4b80_0000) ≡ unit_of k
  unfolding of_bits unit_of
  unit_is =
      div_value binary32 (of_int binary32 (pos k)) (fin false 1 (pos 24)) false false k 1 (2 ^ 24) 1 (zero-lt-suc 0) (pow_pos 24) (zero-lt-suc 0) whole_value (refl, refl)
      ∙ round_exactly binary32 false k 24 h (lit≤ tt) (k * 1) (2 ^ 24 * 1) (pow_pos 24) over

  unit_value : HasValue (unit_of k) false k (2 ^ 24)
  unfolding unit_of
  unit_value = exactly_value false k 24

  twice : Float
  twice = mul binary32 (unit_of k) (fin false 1 (pos 1))

  doubled : k * 2 * 2 ^ 23 ≡ k * (2 ^ 24 * 1)
  doubled = omega arith

  twice_value : HasValue twice false (k * 2) (2 ^ 24 * 1)
  unfolding twice
  twice_value =
      subst (λ (x : Float). HasValue x false (k * 2) (2 ^ 24 * 1))
      (sym (mul_value binary32 (unit_of k) (fin false 1 (pos 1)) false false k (2 ^ 24) 2 1 (pow_pos 24) (zero-lt-suc 0) unit_value (refl, refl)))
      (round_value binary32 false k 23 h (lit≤ tt) (k * 2) (2 ^ 24 * 1) (pow_pos 24) doubled)

  less_one : sum binary32 false (k * 2 * 1) true (2 ^ 24) (2 ^ 24) ≡ bi_of k
  unfolding sum bi_of
  less_one = go k h (ltb (k * 2 * 1) (2 ^ 24)) (ltb→lt (k * 2 * 1) (2 ^ 24)) (nltb→le (k * 2 * 1) (2 ^ 24)) (ltb k (2 ^ 23)) (ltb→lt k (2 ^ 23)) (nltb→le k (2 ^ 23))
    where
      below : (n : ℕ) → n * 2 * 1 < 2 ^ 24 → (2 ^ 24 - n * 2 * 1) * 2 ^ 23 ≡ (2 ^ 23 - n) * 2 ^ 24
      below n l = omega arith

      above : (n : ℕ) → 2 ^ 24 ≤ n * 2 * 1 → (n * 2 * 1 - 2 ^ 24) * 2 ^ 23 ≡ (n - 2 ^ 23) * 2 ^ 24
      above n l = omega arith

      small : (n : ℕ) → 2 ^ 23 - n < 2 ^ 24
      small n = omega arith

      small' : (n : ℕ) → n < 2 ^ 24 → n - 2 ^ 23 < 2 ^ 24
      small' n l = omega arith

      parted : (n : ℕ) → n * 2 * 1 < 2 ^ 24 → 2 ^ 23 ≤ n → ⊥
      parted n a b = omega arith

      parted' : (n : ℕ) → n < 2 ^ 23 → 2 ^ 24 ≤ n * 2 * 1 → ⊥
      parted' n a b = omega arith

      go : (n : ℕ) → n < 2 ^ 24 → (b : Bool) → (T b → n * 2 * 1 < 2 ^ 24) → (T (not b) → 2 ^ 24 ≤ n * 2 * 1) → (b' : Bool) → (T b' → n < 2 ^ 23) → (T (not b') → 2 ^ 23 ≤ n)
          → cond b (round binary32 true (2 ^ 24 - n * 2 * 1) (2 ^ 24)) (round binary32 false (n * 2 * 1 - 2 ^ 24) (2 ^ 24))
          ≡ cond b' (exactly true (2 ^ 23 - n) 23) (exactly false (n - 2 ^ 23) 23)
      go n l true p q true p' q' = round_exactly binary32 true (2 ^ 23 - n) 23 (small n) (lit≤ tt) (2 ^ 24 - n * 2 * 1) (2 ^ 24) (pow_pos 24) (below n (p tt))
      go n l true p q false p' q' = absurd (parted n (p tt) (q' tt))
      go n l false p q true p' q' = absurd (parted' n (p' tt) (q tt))
      go n l false p q false p' q' = round_exactly binary32 false (n - 2 ^ 23) 23 (small' n l) (lit≤ tt) (n * 2 * 1 - 2 ^ 24) (2 ^ 24) (pow_pos 24) (above n (q tt))

  -- as the code of `bi` computes it
  pub bi_is : sub binary32 (mul binary32 (unit_of k) (of_bits binary32 0x4000_0000)) (of_bits binary32 0x3f80_0000) ≡ bi_of k
  unfolding of_bits sub neg twice
  bi_is = add_value binary32 twice (fin true 1 (pos 0)) false true (k * 2) (2 ^ 24 * 1) 1 1 (pow_pos 24) (zero-lt-suc 0) twice_value (refl, refl) ∙ less_one

-- "exactly k / 2^23 − 1", by its sign and its size
pub bi_low : (k : ℕ) → k < 2 ^ 23 → HasValue (bi_of k) true (2 ^ 23 - k) (2 ^ 23)
unfolding bi_of
bi_low k h =
    subst (λ (b : Bool). HasValue (cond b (exactly true (2 ^ 23 - k) 23) (exactly false (k - 2 ^ 23) 23)) true (2 ^ 23 - k) (2 ^ 23))
    (sym (lt-ltb k (2 ^ 23) h)) (exactly_value true (2 ^ 23 - k) 23)

pub bi_high : (k : ℕ) → 2 ^ 23 ≤ k → HasValue (bi_of k) false (k - 2 ^ 23) (2 ^ 23)
unfolding bi_of
bi_high k h =
    subst (λ (b : Bool). HasValue (cond b (exactly true (2 ^ 23 - k) 23) (exactly false (k - 2 ^ 23) 23)) false (k - 2 ^ 23) (2 ^ 23))
    (sym (le-ltb k (2 ^ 23) h)) (exactly_value false (k - 2 ^ 23) 23)

-- "so never 1"
below_one : (x : Float) (a c : ℕ) → HasValue x true a c → T (lt x (fin false 1 (pos 0)))
unfolding lt
below_one (fin s m e) a c v =
    let M = m * up e * 1 in
    let D = 1 * 1 * down e in
    subst (λ (s : Bool). T (below s M false D)) (sym v.0) (lt→ltb 0 (M + D) (lt_of_lt_of_le (mul-pos (zero-lt-suc 0) (down_pos e)) (le-add_left D M)))
below_one lib.Ieee.nan a c v = elim v [ ]
below_one (lib.Ieee.inf _) a c v = elim v [ ]

pub bi_below_one : (k : ℕ) → k < 2 ^ 24 → T (lt (bi_of k) (fin false 1 (pos 0)))
bi_below_one k h = go (ltb k (2 ^ 23)) (ltb→lt k (2 ^ 23)) (nltb→le k (2 ^ 23))
  where
    less : (k : ℕ) → k < 2 ^ 24 → (k - 2 ^ 23) * 1 < 1 * 2 ^ 23
    less k h = omega arith

    go : (b : Bool) → (T b → k < 2 ^ 23) → (T (not b) → 2 ^ 23 ≤ k) → T (lt (bi_of k) (fin false 1 (pos 0)))
    go true p q = below_one (bi_of k) (2 ^ 23 - k) (2 ^ 23) (bi_low k (p tt))
    go false p q =
        subst T (sym (lt_value (bi_of k) (fin false 1 (pos 0)) (k - 2 ^ 23) (2 ^ 23) 1 1 (pow_pos 23) (zero-lt-suc 0) (bi_high k (q tt)) (refl, refl)))
        (lt→ltb ((k - 2 ^ 23) * 1) (1 * 2 ^ 23) (less k h))
