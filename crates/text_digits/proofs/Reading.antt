-- Use at each turn and each return of a reader of bytes and numbers: one step of a form at a place of the bytes, where the rest is `drop at s`. Assumes nothing.
use Prim.Native.Nat.{ℕ, suc, ◌+◌, ◌*◌, ◌-◌, ◌^◌, ◌≤◌, ◌<◌}
use mathlib.Core.Path.{◌≡◌}
use mathlib.Core.List.{List, [], ◌∷◌}
use mathlib.Core.Bool.{Bool, true, false, cond}
use native.Mathlib.Omega.{arith}
use native.Mathlib.Numerals.{add-one}
use lib.Pow.{pow_mono, pow-add}
use borrow.Author.Tests.{lt-ltb, le-ltb, le-leb, lt-leb, eq-eqb, ne_eqb}
use lib.Dec.{ltb}
use lib.ListN.{length, drop, get_or, drop_of_length-le}
use lib.Seq.{drop-cons}
use Rattle.text_digits.specs.Read.{Read, got, broken, digit_of, byte, hex_from, digits_from, fitting, decimal}

pub head : (s : List ℕ) (at : ℕ) → at < length s → drop at s ≡ get_or s at 0 ∷ drop (at + 1) s
head s at h = rw (add-one, drop-cons s at 0)

module _ (b : ℕ) (s : List ℕ) (at : ℕ) where
  pub byte_none : length s ≤ at → broken ≡ byte b (drop at s)
  unfolding byte
  byte_none h = rw (drop_of_length-le s h)

  pub byte_same : at < length s → get_or s at 0 ≡ b → got b (drop (at + 1) s) ≡ byte b (drop at s)
  unfolding byte
  byte_same h e = rw (head s at h, eq-eqb (get_or s at 0) b e)

  pub byte_other : at < length s → (get_or s at 0 ≡ b → ⊥) → broken ≡ byte b (drop at s)
  unfolding byte
  byte_other h e = rw (head s at h, ne_eqb (get_or s at 0) b e)

module _ {n i : ℕ} (v : ℕ) (s : List ℕ) (at d : ℕ) (lt : i < n) where
  left_one : n - i ≡ suc (n - (i + 1))
  left_one = omega arith

  pub hex_none : length s ≤ at → broken ≡ hex_from (n - i) v (drop at s)
  unfolding hex_from
  hex_none h = rw (left_one, drop_of_length-le s h)

  pub hex_bad : at < length s → d ≡ digit_of (get_or s at 0) → 16 ≤ d → broken ≡ hex_from (n - i) v (drop at s)
  unfolding hex_from
  hex_bad h e l = rw (left_one, head s at h, ← e, le-ltb d 16 l)

  pub hex_more : at < length s → d ≡ digit_of (get_or s at 0) → d < 16 → hex_from (n - (i + 1)) (v * 16 + d) (drop (at + 1) s) ≡ hex_from (n - i) v (drop at s)
  unfolding hex_from
  hex_more h e l = rw (left_one, head s at h, ← e, lt-ltb d 16 l)

-- the digits, and what is none of a base up to 16
pub digit_low : (b : ℕ) → 48 ≤ b → b ≤ 57 → digit_of b ≡ b - 48
unfolding digit_of
digit_low b h l = rw (le-ltb b 48 h, lt-ltb b 58 (omega arith))

pub digit_high : (b : ℕ) → 97 ≤ b → b ≤ 102 → digit_of b ≡ b - 87
unfolding digit_of
digit_high b h l = rw (le-ltb b 48 (omega arith), le-ltb b 58 (omega arith), le-ltb b 97 h, lt-ltb b 103 (omega arith))

pub digit_below : (b : ℕ) → b < 48 → digit_of b ≡ 16
unfolding digit_of
digit_below b h = rw (lt-ltb b 48 h)

pub digit_between : (b : ℕ) → 57 < b → b < 97 → digit_of b ≡ 16
unfolding digit_of
digit_between b h l = rw (le-ltb b 48 (omega arith), le-ltb b 58 (omega arith), lt-ltb b 97 l)

pub digit_above : (b : ℕ) → 102 < b → digit_of b ≡ 16
unfolding digit_of
digit_above b h = rw (le-ltb b 48 (omega arith), le-ltb b 58 (omega arith), le-ltb b 97 (omega arith), le-ltb b 103 (omega arith))

-- the value keeps to the digits read
pub hex_room : (i v d : ℕ) → i < 16 → v < 2 ^ (4 * i) → d < 16 → (v * 16 + d < 2 ^ 64) × (v * 16 + d < 2 ^ (4 * (i + 1)))
hex_room i v d h l e =
    let p : 2 ^ (4 * i) ≤ 2 ^ 60 = pow_mono {j = 60} (omega arith) in
    let z : 4 * (i + 1) ≡ 4 * i + 4 = omega arith in
    let q : 2 ^ (4 * i + 4) ≡ 2 ^ (4 * i) * 16 = pow-add 2 (4 * i) 4 in
    (omega arith, rw (z, q) (omega arith))

pub hex_all : {n i v : ℕ} {s : List ℕ} → i ≤ n → n ≤ i → got v s ≡ hex_from (n - i) v s
unfolding hex_from
hex_all {n} {i} l h = let z : n - i ≡ 0 = omega arith in rw z

module _ (most : ℕ) (s : List ℕ) (at d : ℕ) where
  pub decimal_none : length s ≤ at → broken ≡ decimal most (drop at s)
  unfolding decimal
  decimal_none h = rw (drop_of_length-le s h)

  pub decimal_zero : at < length s → get_or s at 0 ≡ 48 → got 0 (drop (at + 1) s) ≡ decimal most (drop at s)
  unfolding decimal
  decimal_zero h e = rw (head s at h, eq-eqb (get_or s at 0) 48 e)

  pub decimal_bad : at < length s → (get_or s at 0 ≡ 48 → ⊥) → d ≡ digit_of (get_or s at 0) → 10 ≤ d → broken ≡ decimal most (drop at s)
  unfolding decimal
  decimal_bad h n e l = rw (head s at h, ne_eqb (get_or s at 0) 48 n, ← e, le-ltb d 10 l)

  pub decimal_start : at < length s → (get_or s at 0 ≡ 48 → ⊥) → d ≡ digit_of (get_or s at 0) → d < 10 → fitting most (digits_from d (drop (at + 1) s)) ≡ decimal most (drop at s)
  unfolding decimal
  decimal_start h n e l = rw (head s at h, ne_eqb (get_or s at 0) 48 n, ← e, lt-ltb d 10 l)

module _ (most v : ℕ) (s : List ℕ) (at d : ℕ) where
  pub digits_end : length s ≤ at → v ≤ most → got v (drop at s) ≡ fitting most (digits_from v (drop at s))
  unfolding digits_from fitting
  digits_end h l = rw (drop_of_length-le s h, le-leb v most l)

  pub digits_stop : at < length s → d ≡ digit_of (get_or s at 0) → 10 ≤ d → v ≤ most → got v (drop at s) ≡ fitting most (digits_from v (drop at s))
  unfolding digits_from fitting
  digits_stop h e l m = rw (head s at h, ← e, le-ltb d 10 l, le-leb v most m)

  pub digits_more : at < length s → d ≡ digit_of (get_or s at 0) → d < 10 → fitting most (digits_from (v * 10 + d) (drop (at + 1) s)) ≡ fitting most (digits_from v (drop at s))
  unfolding digits_from
  digits_more h e l = rw (head s at h, ← e, lt-ltb d 10 l)

over_or_stop : (most v : ℕ) (x : Read ℕ) (s : List ℕ) (t : Bool) → most < v → broken ≡ fitting most x → broken ≡ fitting most (cond t x (got v s))
unfolding fitting
over_or_stop most v x s true h e = e
over_or_stop most v x s false h e = rw (lt-leb v most h)

-- digits that follow make a number no smaller
pub digits_over : (most v : ℕ) (s : List ℕ) → most < v → broken ≡ fitting most (digits_from v s)
unfolding digits_from fitting
digits_over most v [] h = rw (lt-leb v most h)
digits_over most v (b ∷ s) h = over_or_stop most v (digits_from (v * 10 + digit_of b) s) (b ∷ s) (ltb (digit_of b) 10) h (digits_over most (v * 10 + digit_of b) s (omega arith))
