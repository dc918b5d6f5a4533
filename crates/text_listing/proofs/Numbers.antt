-- Use for the printers of numbers: a number's digits are those of the number without its last digit, and that digit. And how many there are. Assumes nothing.
use Prim.Native.Nat.{ℕ, zero, suc, ◌+◌, ◌*◌, ◌-◌, ◌/◌, ◌%◌, ◌^◌, ◌≤◌, ◌<◌}
use mathlib.Core.Path.{◌≡◌, refl, sym, ap, ◌∙◌}
use mathlib.Core.List.{List, [], ◌∷◌, ◌++◌, append-nil, append_assoc}
use mathlib.Core.Bool.{Bool, true, false, cond}
use native.Mathlib.Nat.{div-one, mod-eq_of_lt, div-div-eq-div-mul, pow-zero, pow-succ'}
use native.Mathlib.Omega.{arith}
use borrow.Author.Tests.{lt-ltb, le-ltb, ltb-true, ltb-false}
use lib.Dec.{ltb}
use lib.Pow.{pow-add}
use lib.ListN.{length, length-append}
use Rattle.laws.proofs.If.{if_true, if_false}
use Rattle.text_listing.specs.Digits.{digit_for, last_digits, decimal_up_to, decimal_text}

-- the last j + k digits are the last j of the number without its last k, and those k
pub digits_split : (base j k v : ℕ) → last_digits base (j + k) v ≡ last_digits base j (v / base ^ k) ++ last_digits base k v
unfolding last_digits
digits_split base j zero v =
    let z : v / base ^ 0 ≡ v = ap (λ (n : ℕ). v / n) (pow-zero base) ∙ div-one v in
    let y : j + 0 ≡ j = omega arith in
    ap (λ (i : ℕ). last_digits base i v) y ∙ sym (append-nil (last_digits base j (v / base ^ 0)) ∙ ap (last_digits base j) z)
digits_split base j (suc k) v =
    let d : v / base / base ^ k ≡ v / base ^ suc k = div-div-eq-div-mul v base (base ^ k) ∙ ap (λ (n : ℕ). v / n) (sym (pow-succ' base k)) in
    let last = digit_for (v % base) ∷ [] in
    let y : j + suc k ≡ suc (j + k) = omega arith in
    ap (λ (i : ℕ). last_digits base i v) y
    ∙ ap (λ (l : List ℕ). l ++ last) (digits_split base j k (v / base) ∙ ap (λ (n : ℕ). last_digits base j n ++ last_digits base k (v / base)) d)
    ∙ append_assoc (last_digits base j (v / base ^ suc k)) (last_digits base k (v / base)) last

-- twice as many digits: those of a half each, d being the power that parts them
pub digits_twice : (base k : ℕ) {d : ℕ} (v : ℕ) → base ^ k ≡ d → last_digits base k (v / d) ++ last_digits base k v ≡ last_digits base (k + k) v
digits_twice base k v e = rw (← e) (sym (digits_split base k k v))

pub two_digits : (base v : ℕ) → (digit_for (v / base % base) ∷ []) ++ (digit_for (v % base) ∷ []) ≡ last_digits base 2 v
unfolding last_digits
two_digits base v = refl

-- a digit's byte without a test: the letters stand 39 bytes further
pub decimal_digit_is : (v : ℕ) → v < 10 → v + 48 ≡ digit_for v
unfolding digit_for
decimal_digit_is v h = if_true _ (lt-ltb v 10 h) refl

pub hex_digit_is : (v : ℕ) → v < 16 → v + 48 + (v + 6) / 16 * 39 ≡ digit_for v
unfolding digit_for
hex_digit_is v h = by (ltb v 10) refl
  where
    by : (t : Bool) → ltb v 10 ≡ t → v + 48 + (v + 6) / 16 * 39 ≡ cond (ltb v 10) (v + 48) (v + 87)
    by true e = if_true _ e (omega (arith, ltb-true v 10 e))
    by false e = if_false _ e (omega (arith, ltb-false v 10 e))

cond_same : {A : Type 0} (x y z : A) (t : Bool) → (t ≡ false → y ≡ z) → cond t x y ≡ cond t x z
cond_same x y z true f = refl
cond_same x y z false f = f refl

-- a bound above the value is never met
enough : (f g v : ℕ) → v < f → v < g → decimal_up_to f v ≡ decimal_up_to g v
unfolding decimal_up_to
enough zero g v h k = absurd (omega arith)
enough (suc f) zero v h k = absurd (omega arith)
enough (suc f) (suc g) v h k =
    cond_same _ _ _ (ltb v 10) (λ e. ap (λ (l : List ℕ). l ++ (digit_for (v % 10) ∷ [])) (enough f g (v / 10) (omega (arith, ltb-false v 10 e)) (omega (arith, ltb-false v 10 e))))

pub decimal_last : {v : ℕ} → v < 10 → digit_for v ∷ [] ≡ decimal_text v
unfolding decimal_text decimal_up_to
decimal_last {v} h = rw (lt-ltb v 10 h)

pub decimal_longer : {v : ℕ} → 10 ≤ v → decimal_text (v / 10) ++ (digit_for (v % 10) ∷ []) ≡ decimal_text v
unfolding decimal_text decimal_up_to
decimal_longer {v} h =
    rw (le-ltb v 10 h) (ap (λ (l : List ℕ). l ++ (digit_for (v % 10) ∷ [])) (enough (suc (v / 10)) v (v / 10) (omega arith) (omega arith)))

power : (k : ℕ) → 1 ≤ 10 ^ k
power zero = omega arith
power (suc k) = let p : 10 ^ suc k ≡ 10 * 10 ^ k = pow-succ' 10 k in let q = power k in omega arith

split : (k v : ℕ) → 10 ^ k ≤ v → decimal_text (v / 10 ^ k) ++ last_digits 10 k v ≡ decimal_text v
unfolding last_digits
split zero v h = append-nil (decimal_text (v / 10 ^ 0)) ∙ ap decimal_text (div-one v)
split (suc k) v h =
    let p : 10 ^ suc k ≡ 10 * 10 ^ k = pow-succ' 10 k in
    let q : 1 ≤ 10 ^ k = power k in
    let d : v / 10 ^ suc k ≡ v / 10 / 10 ^ k = ap (λ (n : ℕ). v / n) p ∙ sym (div-div-eq-div-mul v 10 (10 ^ k)) in
    let last = digit_for (v % 10) ∷ [] in
    rw d
    (sym (append_assoc (decimal_text (v / 10 / 10 ^ k)) (last_digits 10 k (v / 10)) last)
    ∙ ap (λ (l : List ℕ). l ++ last) (split k (v / 10) (omega arith))
    ∙ decimal_longer (omega arith))

-- a number of more than k digits, d being 10^k: those without its last k, and those k
pub decimal_split : (k : ℕ) {d : ℕ} (v : ℕ) → 10 ^ k ≡ d → d ≤ v → decimal_text (v / d) ++ last_digits 10 k v ≡ decimal_text v
decimal_split k v e h = rw (← e) (split k v (rw e h))

one_last : (v : ℕ) → v < 10 → last_digits 10 1 v ≡ decimal_text v
unfolding last_digits
one_last v h = rw (mod-eq_of_lt h) (decimal_last h)

-- a number of k + 1 digits, d being 10^k: its first, and its last k; which are its last k + 1
pub decimal_whole : (k : ℕ) {d : ℕ} (v : ℕ) → 10 ^ k ≡ d → d ≤ v → v / d < 10 → (digit_for (v / d) ∷ []) ++ last_digits 10 k v ≡ decimal_text v
decimal_whole k {d} v e h l = ap (λ (s : List ℕ). s ++ last_digits 10 k v) (decimal_last l) ∙ decimal_split k v e h

pub decimal_full : (k : ℕ) {d : ℕ} (v : ℕ) → 10 ^ k ≡ d → d ≤ v → v / d < 10 → last_digits 10 (suc k) v ≡ decimal_text v
decimal_full k {d} v e h l =
    let z : suc k ≡ 1 + k = omega arith in
    ap (λ (j : ℕ). last_digits 10 j v) z ∙ digits_split 10 1 k v
    ∙ ap (λ (s : List ℕ). s ++ last_digits 10 k v) (one_last (v / 10 ^ k) (rw e l) ∙ ap decimal_text (ap (λ (n : ℕ). v / n) e)) ∙ decimal_split k v e h

pub digits_length : (base k v : ℕ) → length (last_digits base k v) ≡ k
unfolding last_digits
digits_length base zero v = refl
digits_length base (suc k) v = length-append (last_digits base k (v / base)) (digit_for (v % base) ∷ []) ∙ omega (arith, digits_length base k (v / base))

-- a number of k + 1 digits, d being 10^k, and one of more than k
pub length_whole : (k : ℕ) {d : ℕ} (v : ℕ) → 10 ^ k ≡ d → d ≤ v → v / d < 10 → suc k ≡ length (decimal_text v)
length_whole k v e h l = sym (digits_length 10 (suc k) v) ∙ ap length (decimal_full k v e h l)

pub length_split : (k : ℕ) {d : ℕ} (v : ℕ) → 10 ^ k ≡ d → d ≤ v → length (decimal_text (v / d)) + k ≡ length (decimal_text v)
length_split k {d} v e h =
    ap (λ (n : ℕ). length (decimal_text (v / d)) + n) (sym (digits_length 10 k v)) ∙ sym (length-append (decimal_text (v / d)) (last_digits 10 k v)) ∙ ap length (decimal_split k v e h)

pub length_one : (v : ℕ) → v < 10 → 1 ≡ length (decimal_text v)
length_one v h = ap length (decimal_last h)

-- an index below 10,000 has a digit, and one more from 10, from 100 and from 1,000 on
pub index_digits : (n : ℕ) → n < 10000 → length (decimal_text n) + (n - 10) + (n - 100) + (n - 1000) ≡ 1 + (suc n - 10) + (suc n - 100) + (suc n - 1000)
index_digits n h = by (ltb n 10) (ltb n 100) (ltb n 1000) refl refl refl
  where
    by : (a b c : Bool) → ltb n 10 ≡ a → ltb n 100 ≡ b → ltb n 1000 ≡ c → length (decimal_text n) + (n - 10) + (n - 100) + (n - 1000) ≡ 1 + (suc n - 10) + (suc n - 100) + (suc n - 1000)
    by true b c p q r = let l = ltb-true n 10 p in let k = length_one n l in omega arith
    by false true c p q r = let l = ltb-false n 10 p in let m = ltb-true n 100 q in let k = length_whole 1 n refl l (omega arith) in omega arith
    by false false true p q r = let l = ltb-false n 100 q in let m = ltb-true n 1000 r in let k = length_whole 2 n refl l (omega arith) in omega arith
    by false false false p q r = let l = ltb-false n 1000 r in let k = length_whole 3 n refl l (omega arith) in omega arith

one_digit : (v : ℕ) → v < 10 → length (decimal_text v) ≡ 1
one_digit v h = sym (ap length (decimal_last h))

one_more : (v : ℕ) → 10 ≤ v → length (decimal_text v) ≡ length (decimal_text (v / 10)) + 1
one_more v h = sym (ap length (decimal_longer h)) ∙ length-append (decimal_text (v / 10)) (digit_for (v % 10) ∷ [])

by_digit : (k v : ℕ) (t : Bool) → ltb v 10 ≡ t → (10 ≤ v → length (decimal_text (v / 10)) ≤ suc k) → length (decimal_text v) ≤ suc (suc k)
by_digit k v true e f = let l = one_digit v (ltb-true v 10 e) in omega arith
by_digit k v false e f =
    let h = ltb-false v 10 e in
    let l = one_more v h in
    let m = f h in
    omega arith

-- a number below 10^k has at most k digits, and 0 has one
pub decimal_length : (k v : ℕ) → v < 10 ^ suc k → length (decimal_text v) ≤ suc k
decimal_length zero v h = let l = one_digit v h in omega arith
decimal_length (suc k) v h =
    let p : 10 ^ (suc k + 1) ≡ 10 ^ suc k * 10 = pow-add 10 (suc k) 1 in
    let z : suc (suc k) ≡ suc k + 1 = omega arith in
    let b : v < 10 ^ suc k * 10 = rw (← p, ← z) h in
    by_digit k v (ltb v 10) refl (λ _. decimal_length k (v / 10) (omega arith))
