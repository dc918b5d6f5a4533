-- Values of a format in units of its smallest value: which numbers of units they are, what `units` makes, and the last bit of its pattern. Assumes nothing.
use mathlib.Core.Path.{◌≡◌, refl, sym, ap, ◌∙◌, subst}
use mathlib.Core.Logic.{inl, inr}
use Prim.Native.Nat.{ℕ, zero, suc, ◌+◌, ◌-◌, ◌*◌, ◌/◌, ◌%◌, ◌^◌, ◌≤◌, ◌<◌}
use native.Mathlib.Nat.{le_trans, le_of_eq, le_refl, lt_of_lt_of_le, lt_of_le_of_lt, lt_of_not-le, lt_of_mul-lt-mul_right, not-le_of_lt, eq-or-lt_of_le, le_of_suc-le-suc, mul_comm, mul-pos}
use native.Mathlib.Nat.{mul_right_comm, mul_assoc, mul-one, zero-mul, mul-le-mul_right, mul-lt-mul_of_pos_right, mul-mod_left, eq_of_mul-eq-mul_right, mul-div_cancel}
use native.Mathlib.Omega.{arith}
use mathlib.Core.Bool.{Bool, true, false, ◌&&◌, cond}
use lib.IntN.{ℤ, pos, negsuc}
use lib.Dec.{T, leb, ltb, eqb, ltb→lt, lt→ltb, leb→le}
use lib.Arith.{le→nltb}
use lib.Pow.{pow-add, pow_pos, pow_mono, pow-lt}
use lib.Ieee.{Float, inf, fin, Format, prec, emax, low, up, down, size, odd, units, fits, hid, ones, top, to_bits}
use lib.Ieee.Digits.{size-lt, size_reaches, back}
use lib.Ieee.Fits.{two, two-le_pos, odd-fits, down_pos, and_l, and_r}
use lib.Ieee.Exact.{HasValue, units_val}
use lib.Ieee.Bits.{is_true, is_false}
use lib.Ieee.Scale.{overflow}
use Rattle.ieee.specs.Nearest.{IsValue}
use Rattle.ieee.proofs.Digits.{size_at}
use Rattle.ieee.proofs.Halves.{Short, pow_even}

-- ---- a value has at most prec digits, and zeros after them
pub fits_parts : (f : Format) (s : Bool) (m : ℕ) (e : ℤ) → T (fits f (fin s (suc m) e)) → (suc m < 2 ^ prec f) × (down e ≤ 2 ^ low f) × (suc m * up e < 2 ^ suc (emax f) * down e)
unfolding fits
fits_parts f s m e t =
    let a : Bool = eqb (suc m % 2) 1 in
    let b : Bool = ltb (suc m) (2 ^ prec f) in
    let c : Bool = leb (down e) (2 ^ low f) in
    let d : Bool = ltb (suc m * up e) (2 ^ suc (emax f) * down e) in
    let h : T (a && b && c) = and_l (a && b && c) d t in (
      ltb→lt (suc m) (2 ^ prec f) (and_r a b (and_l (a && b) c h)),
      leb→le (down e) (2 ^ low f) (and_r (a && b) c h),
      ltb→lt (suc m * up e) (2 ^ suc (emax f) * down e) (and_r (a && b && c) d t),
    )

pow_back : (i j : ℕ) → 2 ^ i ≤ 2 ^ j → i ≤ j
pow_back i j h = le_of_suc-le-suc (lt_of_not-le (λ (l : suc j ≤ i). not-le_of_lt (pow-lt l) h))

in_units : (n b l : ℕ) (e : ℤ) → down e ≤ 2 ^ l → n * up e * 2 ^ l ≡ b * down e → (j : ℕ) × (b ≡ n * 2 ^ j)
in_units n b l (pos i) h v = (i + l, sym (mul-one b) ∙ sym v ∙ mul_assoc n (2 ^ i) (2 ^ l) ∙ ap (λ (x : ℕ). n * x) (sym (pow-add 2 i l)))
in_units n b l (negsuc i) h v = (
  l - suc i,
  eq_of_mul-eq-mul_right (2 ^ suc i) (pow_pos (suc i)) b (n * 2 ^ (l - suc i))
      (sym v
      ∙ ap (λ (x : ℕ). x * 2 ^ l) (mul-one n)
      ∙ ap (λ (x : ℕ). n * x) (ap (λ (x : ℕ). 2 ^ x) (sym (back l (suc i) (pow_back (suc i) l h))) ∙ pow-add 2 (l - suc i) (suc i))
      ∙ sym (mul_assoc n (2 ^ (l - suc i)) (2 ^ suc i))),
)

pub short : (f : Format) (s : Bool) (b : ℕ) (x : Float) → IsValue f s b x → Short (prec f) b
short f s b x v = go x v.held v.is
  where
    go : (x : Float) → T (fits f x) → HasValue x s b (2 ^ low f) → Short (prec f) b
    go (fin t zero e) h v = record {
      n = 0;
      j = 0;
      small = pow_pos (prec f);
      is = eq_of_mul-eq-mul_right (down e) (down_pos e) b 0 (sym v.1 ∙ ap (λ (x : ℕ). x * 2 ^ low f) (zero-mul (up e)) ∙ zero-mul (2 ^ low f) ∙ sym (zero-mul (down e)));
    }
    go (fin t (suc m) e) h v =
        let d = fits_parts f t m e h in
        let j = in_units (suc m) b (low f) e d.1 v.1 in
        record { n = suc m; j = j.0; small = d.0; is = j.1 }
    go lib.Ieee.nan h v = elim v [ ]
    go (inf _) h v = elim v [ ]

-- ---- what `units` makes: a value of the format, or an infinity
pub units_value : (f : Format) (s : Bool) (q k : ℕ) → q ≤ 2 ^ prec f → q * 2 ^ k < overflow f → IsValue f s (q * 2 ^ k) (units f s q k)
unfolding units
units_value f s q k h l = record { held = holds; is = units_val f s q k l }
  where
    holds : T (fits f (units f s q k))
    holds =
        subst (λ (b : Bool). T (fits f (cond b (odd (suc (prec f)) s q k (low f)) (inf s)))) (sym (is_true (ltb (q * 2 ^ k) (overflow f)) (lt→ltb (q * 2 ^ k) (overflow f) l)))
        (odd-fits f (suc (prec f)) s q k (lt_of_le_of_lt h (pow-lt (le_refl (suc (prec f))))) h l)

pub units_inf : (f : Format) (s : Bool) (q k : ℕ) → overflow f ≤ q * 2 ^ k → units f s q k ≡ inf s
unfolding units
units_inf f s q k l = ap (λ (b : Bool). cond b (odd (suc (prec f)) s q k (low f)) (inf s)) (is_false (ltb (q * 2 ^ k) (overflow f)) (le→nltb (q * 2 ^ k) (overflow f) l))

-- ---- of the digits of x p are left with k dropped, and this says which k it is
abbrev pub Drops : ℕ → ℕ → ℕ → Type 0
Drops p k x = (x < 2 ^ p * 2 ^ k) × (0 < k → 2 ^ (p - 1) * 2 ^ k ≤ x)

pub drops : (p x : ℕ) → 0 < p → Drops p (size x - p) x
drops p x P = (
  lt_of_lt_of_le (size-lt x) (le_trans (pow_mono (all (size x) p)) (le_of_eq (pow-add 2 p (size x - p)))),
  λ i. le_trans (le_of_eq (sym (pow-add 2 (p - 1) (size x - p)))) (size_reaches x (p - 1 + (size x - p)) (inside (size x) p P i)),
)
  where
    all : (z p : ℕ) → z ≤ p + (z - p)
    all z p = omega arith

    inside : (z p : ℕ) → 0 < p → 0 < z - p → p - 1 + (z - p) < z
    inside z p P i = omega arith

drops_is : (p k x : ℕ) → 0 < p → Drops p k x → size x - p ≡ k
drops_is p k x P d = size_at p x k P (lt_of_lt_of_le d.0 (le_of_eq (sym (pow-add 2 p k)))) (λ i. le_trans (le_of_eq (pow-add 2 (p - 1) k)) (d.1 i))

-- ---- the last bit of the pattern of q * 2 ^ k units is 0 where q is even
pub to_bits_value : (f : Format) (x : Float) (s : Bool) (a : ℕ) → HasValue x s a (2 ^ low f) → to_bits f x ≡ cond s (top f) 0 + (size a - prec f) * hid f + a / 2 ^ (size a - prec f)
unfolding to_bits
to_bits_value f (fin t m e) s a v =
    (λ i. cond (v.0 i) (top f) 0 + (size (m * up e * 2 ^ low f / down e) - prec f) * hid f + m * up e * 2 ^ low f / down e / 2 ^ (size (m * up e * 2 ^ low f / down e) - prec f))
    ∙ ap (λ (n : ℕ). cond s (top f) 0 + (size n - prec f) * hid f + n / 2 ^ (size n - prec f)) (ap (λ (x : ℕ). x / down e) v.1 ∙ mul-div_cancel a (down_pos e))
to_bits_value f lib.Ieee.nan s a v = elim v [ ]
to_bits_value f (inf _) s a v = elim v [ ]

abbrev pub keeps : ℕ → ℕ → ℕ
keeps p a = a / 2 ^ (size a - p)

pub keeps_q : (p q k : ℕ) → 0 < p → q < 2 ^ p → (0 < k → 2 ^ (p - 1) ≤ q) → keeps p (q * 2 ^ k) ≡ q
keeps_q p q k P l g =
    ap (λ (z : ℕ). q * 2 ^ k / 2 ^ z) (drops_is p k (q * 2 ^ k) P (mul-lt-mul_of_pos_right l (pow_pos k), λ i. mul-le-mul_right (2 ^ k) (g i)))
    ∙ mul-div_cancel q (pow_pos k)

lower : (p : ℕ) → 2 ≤ p → (0 < p - 1) × (p - 1 < p)
lower p h = omega arith

-- 2 ^ p has a digit more, and is kept as 2 ^ (p - 1)
keeps_even : (p q k : ℕ) → 2 ≤ p → q ≤ 2 ^ p → (0 < k → 2 ^ (p - 1) ≤ q) → q % 2 ≡ 0 → keeps p (q * 2 ^ k) % 2 ≡ 0
keeps_even p q k P l g h = elim (eq-or-lt_of_le l) [
  | inl e ↦ ap (λ (a : ℕ). keeps p a % 2) (ap (λ (x : ℕ). x * 2 ^ k) e ∙ carry)
      ∙ ap (λ (a : ℕ). a % 2) (keeps_q p (2 ^ (p - 1)) (suc k) (two-le_pos p P) (pow-lt (lower p P).1) (λ i. le_refl (2 ^ (p - 1))))
      ∙ pow_even (p - 1) (lower p P).0
  | inr i ↦ ap (λ (a : ℕ). a % 2) (keeps_q p q k (two-le_pos p P) i g) ∙ h
]
  where
    places : (p k : ℕ) → 2 ≤ p → p + k ≡ p - 1 + suc k
    places p k P = omega arith

    carry : 2 ^ p * 2 ^ k ≡ 2 ^ (p - 1) * 2 ^ suc k
    carry = sym (pow-add 2 p k) ∙ ap (λ (x : ℕ). 2 ^ x) (places p k P) ∙ pow-add 2 (p - 1) (suc k)

times_even : (n a : ℕ) → a % 2 ≡ 0 → n * a % 2 ≡ 0
times_even n a h = ap (λ (x : ℕ). x % 2) (ap (λ (x : ℕ). n * x) (double a h) ∙ sym (mul_assoc n (a / 2) 2)) ∙ mul-mod_left (n * (a / 2)) 2
  where
    double : (a : ℕ) → a % 2 ≡ 0 → a ≡ a / 2 * 2
    double a h = omega arith

-- the last bit of a pattern is that of the digits which it keeps
pub last_bit : (f : Format) (x : Float) (s : Bool) (a : ℕ) → HasValue x s a (2 ^ low f) → to_bits f x % 2 ≡ keeps (prec f) a % 2
last_bit f x s a v =
    ap (λ (x : ℕ). x % 2) (to_bits_value f x s a v)
    ∙ sum (cond s (top f) 0) ((size a - prec f) * hid f) (keeps (prec f) a) (sign s) (times_even (size a - prec f) (hid f) hid_even)
  where
    sum : (a b c : ℕ) → a % 2 ≡ 0 → b % 2 ≡ 0 → (a + b + c) % 2 ≡ c % 2
    sum a b c x y = omega arith

    hid_even : hid f % 2 ≡ 0
    hid_even = pow_even (prec f - 1) (lower (prec f) (two f)).0

    sign : (s : Bool) → cond s (top f) 0 % 2 ≡ 0
    sign true = ap (λ (x : ℕ). x % 2) (mul_comm (hid f) (suc (ones f))) ∙ times_even (suc (ones f)) (hid f) hid_even
    sign false = refl

pub units_even : (f : Format) (s : Bool) (q k : ℕ) → q ≤ 2 ^ prec f → (0 < k → 2 ^ (prec f - 1) ≤ q) → q * 2 ^ k < overflow f → q % 2 ≡ 0 → to_bits f (units f s q k) % 2 ≡ 0
units_even f s q k h g l e = last_bit f (units f s q k) s (q * 2 ^ k) (units_val f s q k l) ∙ keeps_even (prec f) q k (two f) h g e

-- ---- a value is finite: it lies below the first power of two that the format has not
pub value_below : (f : Format) (s : Bool) (b : ℕ) (x : Float) → IsValue f s b x → b < overflow f
value_below f s b x v = go x v.held v.is
  where
    crossed : (N D U : ℕ) → 0 < D → N * 2 ^ low f ≡ b * D → N < U * D → b < U * 2 ^ low f
    crossed N D U P e h = lt_of_mul-lt-mul_right D (lt_of_le_of_lt (le_of_eq (sym e)) (lt_of_lt_of_le (mul-lt-mul_of_pos_right h (pow_pos (low f))) (le_of_eq (mul_right_comm U D (2 ^ low f)))))

    total : 2 ^ suc (emax f) * 2 ^ low f ≡ overflow f
    total = mul_comm (2 ^ suc (emax f)) (2 ^ low f) ∙ sym (pow-add 2 (low f) (suc (emax f)))

    go : (x : Float) → T (fits f x) → HasValue x s b (2 ^ low f) → b < overflow f
    go (fin t zero e) h v =
        let U = 2 ^ suc (emax f) in
        subst (λ (n : ℕ). b < n) total
        (crossed (zero * up e) (down e) U (down_pos e) v.1 (subst (λ (n : ℕ). n < U * down e) (sym (zero-mul (up e))) (mul-pos (pow_pos (suc (emax f))) (down_pos e))))
    go (fin t (suc m) e) h v = subst (λ (n : ℕ). b < n) total (crossed (suc m * up e) (down e) (2 ^ suc (emax f)) (down_pos e) v.1 (fits_parts f t m e h).2)
    go lib.Ieee.nan h v = elim v [ ]
    go (inf _) h v = elim v [ ]
