-- A float by its exact value. `HasValue x s a c` says that x is finite with the sign s and is a / c in size.
-- One value is written in one way (`value_unique`). What an operation gives, from any fractions that its operands equal (`mul_value`, `div_value`, `add_value`). Assumes nothing.
use mathlib.Core.Path.{◌≡◌, refl, sym, ap, ◌∙◌, subst}
use Prim.Native.Nat.{ℕ, zero, suc, ◌+◌, ◌-◌, ◌*◌, ◌%◌, ◌^◌, ◌<◌}
use native.Mathlib.Nat.{mul_comm, mul_assoc, mul_left_comm, mul_right_comm, mul-mul-mul_comm, mul-one, one-mul, zero-mul, mul-pos, mul-sub, add-mul, lt_irrefl, zero-lt-suc, pow-succ'}
use native.Mathlib.Nat.{pow-suc, eq_of_mul-eq-mul_right, add-suc, mul-lt-mul_of_pos_right, lt_of_mul-lt-mul_right}
use native.Mathlib.Omega.{arith}
use mathlib.Core.Bool.{Bool, true, false, ◌&&◌, beq, cond}
use lib.IntN.{ℤ, pos, negsuc}
use lib.Dec.{T, leb, ltb, eqb, eqb→eq, ltb→lt, lt→ltb}
use lib.Pow.{pow-add, pow_pos}
use lib.Ieee.{Float, nan, inf, fin, Format, prec, emax, low, unlike, up, down, round, sum, add, mul, div, fits, lt, below}
use lib.Ieee.Fits.{up_pos, down_pos, and_l}
use lib.Ieee.Exact.{HasValue}
use lib.Ieee.Scale.{round_same}

-- ---- from one fraction to another
pub revalue : (x : Float) (s : Bool) (a c b d : ℕ) → 0 < c → a * d ≡ b * c → HasValue x s a c → HasValue x s b d
revalue nan s a c b d p h v = v
revalue (inf t) s a c b d p h v = v
revalue (fin t m e) s a c b d p h v = (
  v.0,
  eq_of_mul-eq-mul_right c p (m * up e * d) (b * down e)
      (mul_right_comm (m * up e) d c ∙ ap (λ (x : ℕ). x * d) v.1 ∙ mul_right_comm a (down e) d ∙ ap (λ (x : ℕ). x * down e) h ∙ mul_right_comm b c (down e)),
)

-- ---- one value, one way to write it
even_odd : (m t : ℕ) → m % 2 ≡ 1 → m ≡ 2 * t → ⊥
even_odd m t o h = omega arith

odd_pow : (m n a b : ℕ) → m % 2 ≡ 1 → n % 2 ≡ 1 → m * 2 ^ a ≡ n * 2 ^ b → (m ≡ n) × (a ≡ b)
odd_pow m n zero zero o p h = (sym (mul-one m) ∙ h ∙ mul-one n, refl)
odd_pow m n zero (suc b) o p h = absurd (even_odd m (n * 2 ^ b) o (sym (mul-one m) ∙ h ∙ ap (λ (x : ℕ). n * x) (pow-succ' 2 b) ∙ mul_left_comm n 2 (2 ^ b)))
odd_pow m n (suc a) zero o p h = absurd (even_odd n (m * 2 ^ a) p (sym (mul-one n) ∙ sym h ∙ ap (λ (x : ℕ). m * x) (pow-succ' 2 a) ∙ mul_left_comm m 2 (2 ^ a)))
odd_pow m n (suc a) (suc b) o p h =
    let r = odd_pow m n a b o p (eq_of_mul-eq-mul_right 2 (zero-lt-suc 1) (m * 2 ^ a) (n * 2 ^ b)
    (mul_assoc m (2 ^ a) 2 ∙ ap (λ (x : ℕ). m * x) (sym (pow-suc 2 a)) ∙ h ∙ ap (λ (x : ℕ). n * x) (pow-suc 2 b) ∙ sym (mul_assoc n (2 ^ b) 2))) in
    (r.0, ap suc r.1)

is_odd : (f : Format) (s : Bool) (m : ℕ) (e : ℤ) → T (fits f (fin s (suc m) e)) → suc m % 2 ≡ 1
unfolding fits
is_odd f s m e t =
    eqb→eq (suc m % 2) 1 (and_l (eqb (suc m % 2) 1) (ltb (suc m) (2 ^ prec f)) (and_l (eqb (suc m % 2) 1 && ltb (suc m) (2 ^ prec f)) (leb (down e) (2 ^ low f))
    (and_l (eqb (suc m % 2) 1 && ltb (suc m) (2 ^ prec f) && leb (down e) (2 ^ low f)) (ltb (suc m * up e) (2 ^ suc (emax f) * down e)) t)))

two_up : (p : ℕ) → 0 < p → 2 * p ≡ 1 → ⊥
two_up p h e = omega arith

flat : (e : ℤ) → up e * down e ≡ 1 → e ≡ pos 0
flat (pos zero) h = refl
flat (pos (suc k)) h = absurd (two_up (2 ^ k) (pow_pos k) (sym (pow-succ' 2 k) ∙ sym (mul-one (2 ^ suc k)) ∙ h))
flat (negsuc k) h = absurd (two_up (2 ^ k) (pow_pos k) (sym (pow-succ' 2 k) ∙ sym (one-mul (2 ^ suc k)) ∙ h))

pub zero_exp : (f : Format) (s : Bool) (e : ℤ) → T (fits f (fin s zero e)) → e ≡ pos 0
unfolding fits
zero_exp f s e t = flat e (eqb→eq (up e * down e) 1 t)

suc_zero : (k : ℕ) → suc k ≡ 0 → ⊥
suc_zero k h = omega arith

pred_eq : (i j : ℕ) → suc i ≡ suc j → i ≡ j
pred_eq i j h = omega arith

same_exp : (m n : ℕ) (e d : ℤ) → m % 2 ≡ 1 → n % 2 ≡ 1 → m * up e * down d ≡ n * up d * down e → (m ≡ n) × (e ≡ d)
same_exp m n (pos i) (pos j) o p h = let r = odd_pow m n i j o p (sym (mul-one (m * 2 ^ i)) ∙ h ∙ mul-one (n * 2 ^ j)) in (r.0, ap pos r.1)
same_exp m n (pos i) (negsuc j) o p h =
    absurd (suc_zero (i + j) (sym (add-suc i j) ∙ (odd_pow m n (i + suc j) 0 o p (ap (λ (x : ℕ). m * x) (pow-add 2 i (suc j)) ∙ sym (mul_assoc m (2 ^ i) (2 ^ suc j)) ∙ h ∙ mul-one (n * 1))).1))
same_exp m n (negsuc i) (pos j) o p h =
    absurd (suc_zero (j + i) (sym (add-suc j i) ∙ (odd_pow n m (j + suc i) 0 p o (ap (λ (x : ℕ). n * x) (pow-add 2 j (suc i)) ∙ sym (mul_assoc n (2 ^ j) (2 ^ suc i)) ∙ sym h ∙ mul-one (m * 1))).1))
same_exp m n (negsuc i) (negsuc j) o p h =
    let r = odd_pow m n (suc j) (suc i) o p (ap (λ (x : ℕ). x * 2 ^ suc j) (sym (mul-one m)) ∙ h ∙ ap (λ (x : ℕ). x * 2 ^ suc i) (mul-one n)) in
    (r.0, ap negsuc (pred_eq i j (sym r.1)))

cross : (M N a c de dd : ℕ) → 0 < c → M * c ≡ a * de → N * c ≡ a * dd → M * dd ≡ N * de
cross M N a c de dd C v w =
    eq_of_mul-eq-mul_right c C (M * dd) (N * de)
    (mul_right_comm M dd c ∙ ap (λ (x : ℕ). x * dd) v ∙ mul_right_comm a de dd ∙ ap (λ (x : ℕ). x * de) (sym w) ∙ mul_right_comm N c de)

no_zero : (n : ℕ) (d e : ℤ) → suc n * up d * down e ≡ 0 → ⊥
no_zero n d e h = lt_irrefl 0 (subst (λ (x : ℕ). 0 < x) h (mul-pos (mul-pos (zero-lt-suc n) (up_pos d)) (down_pos e)))

zero_side : (e d : ℤ) → zero * up e * down d ≡ 0
zero_side e d = ap (λ (x : ℕ). x * down d) (zero-mul (up e)) ∙ zero-mul (down d)

pub value_unique : (f g : Format) (x y : Float) (s : Bool) (a c : ℕ) → 0 < c → T (fits f x) → T (fits g y) → HasValue x s a c → HasValue y s a c → x ≡ y
value_unique f g (fin t zero e) (fin u zero d) s a c C p q v w = λ i. fin ((v.0 ∙ sym w.0) i) zero ((zero_exp f t e p ∙ sym (zero_exp g u d q)) i)
value_unique f g (fin t zero e) (fin u (suc n) d) s a c C p q v w =
    absurd (no_zero n d e (sym (cross (zero * up e) (suc n * up d) a c (down e) (down d) C v.1 w.1) ∙ zero_side e d))
value_unique f g (fin t (suc m) e) (fin u zero d) s a c C p q v w =
    absurd (no_zero m e d (cross (suc m * up e) (zero * up d) a c (down e) (down d) C v.1 w.1 ∙ zero_side d e))
value_unique f g (fin t (suc m) e) (fin u (suc n) d) s a c C p q v w =
    let r = same_exp (suc m) (suc n) e d (is_odd f t m e p) (is_odd g u n d q) (cross (suc m * up e) (suc n * up d) a c (down e) (down d) C v.1 w.1) in
    λ i. fin ((v.0 ∙ sym w.0) i) (r.0 i) (r.1 i)
value_unique f g nan y s a c C p q v w = elim v [ ]
value_unique f g (inf _) y s a c C p q v w = elim v [ ]
value_unique f g (fin t zero e) nan s a c C p q v w = elim w [ ]
value_unique f g (fin t zero e) (inf _) s a c C p q v w = elim w [ ]
value_unique f g (fin t (suc m) e) nan s a c C p q v w = elim w [ ]
value_unique f g (fin t (suc m) e) (inf _) s a c C p q v w = elim w [ ]

-- ---- the operations, by any fractions that the operands equal
pub same_test : (a b : Bool) → (T a → T b) → (T b → T a) → a ≡ b
same_test true true p q = refl
same_test true false p q = absurd (p tt)
same_test false true p q = absurd (q tt)
same_test false false p q = refl

products : (M N a b c d de dd : ℕ) → M * c ≡ a * de → N * d ≡ b * dd → M * N * (c * d) ≡ a * b * (de * dd)
products M N a b c d de dd v w = mul-mul-mul_comm M N c d ∙ ap (λ (z : ℕ). z * (N * d)) v ∙ ap (λ (z : ℕ). a * de * z) w ∙ mul-mul-mul_comm a de b dd

pub mul_value : (f : Format) (x y : Float) (s t : Bool) (a c b d : ℕ) → 0 < c → 0 < d → HasValue x s a c → HasValue y t b d → mul f x y ≡ round f (unlike s t) (a * b) (c * d)
unfolding mul
mul_value f (fin s' m e) (fin t' n g) s t a c b d C D v w =
    (λ i. round f (unlike (v.0 i) (w.0 i)) (m * up e * (n * up g)) (down e * down g))
    ∙ round_same f (unlike s t) (m * up e * (n * up g)) (down e * down g) (a * b) (c * d) (mul-pos (down_pos e) (down_pos g)) (mul-pos C D)
    (products (m * up e) (n * up g) a b c d (down e) (down g) v.1 w.1)
mul_value f nan y s t a c b d C D v w = elim v [ ]
mul_value f (inf _) y s t a c b d C D v w = elim v [ ]
mul_value f (fin s' m e) nan s t a c b d C D v w = elim w [ ]
mul_value f (fin s' m e) (inf _) s t a c b d C D v w = elim w [ ]

not_eqb : (n : ℕ) → 0 < n → eqb n 0 ≡ false
not_eqb n h = same_test (eqb n 0) false (λ t. lt_irrefl 0 (subst (λ (x : ℕ). 0 < x) (eqb→eq n 0 t) h)) (λ t. absurd t)

first_pos : (n u c b d : ℕ) → 0 < b → 0 < d → n * u * c ≡ b * d → 0 < n
first_pos zero u c b d B D h = absurd (lt_irrefl 0 (subst (λ (x : ℕ). 0 < x) (sym h ∙ ap (λ (x : ℕ). x * c) (zero-mul u) ∙ zero-mul c) (mul-pos B D)))
first_pos (suc n) u c b d B D h = zero-lt-suc n

quotients : (M N a b c d de dd : ℕ) → M * c ≡ a * de → N * d ≡ b * dd → M * dd * (b * c) ≡ a * d * (N * de)
quotients M N a b c d de dd v w =
    mul-mul-mul_comm M dd b c ∙ simp (mul_comm, mul_left_comm) (simp (mul_comm, mul_left_comm) at
    (ap (λ (z : ℕ). z * (b * dd)) v ∙ ap (λ (z : ℕ). a * de * z) (sym w)))

pub div_value : (f : Format) (x y : Float) (s t : Bool) (a c b d : ℕ) → 0 < c → 0 < b → 0 < d → HasValue x s a c → HasValue y t b d → div f x y ≡ round f (unlike s t) (a * d) (b * c)
unfolding div
div_value f (fin s' m e) (fin t' n g) s t a c b d C B D v w =
    let n_pos : 0 < n = first_pos n (up g) d b (down g) B (down_pos g) w.1 in
    ap (λ (z : Bool). cond z (cond (eqb m 0) nan (inf (unlike s' t'))) (round f (unlike s' t') (m * up e * down g) (n * up g * down e))) (not_eqb n n_pos)
    ∙ (λ i. round f (unlike (v.0 i) (w.0 i)) (m * up e * down g) (n * up g * down e))
    ∙ round_same f (unlike s t) (m * up e * down g) (n * up g * down e) (a * d) (b * c) (mul-pos (mul-pos n_pos (up_pos g)) (down_pos e)) (mul-pos B C)
    (quotients (m * up e) (n * up g) a b c d (down e) (down g) v.1 w.1)
div_value f nan y s t a c b d C B D v w = elim v [ ]
div_value f (inf _) y s t a c b d C B D v w = elim v [ ]
div_value f (fin s' m e) nan s t a c b d C B D v w = elim w [ ]
div_value f (fin s' m e) (inf _) s t a c b d C B D v w = elim w [ ]

-- ---- a sum of fractions over one denominator
scaled_ltb : (a b c a' b' c' : ℕ) → 0 < c → 0 < c' → a * c' ≡ a' * c → b * c' ≡ b' * c → T (ltb a b) → T (ltb a' b')
scaled_ltb a b c a' b' c' C C' p q h =
    lt→ltb a' b' (lt_of_mul-lt-mul_right c (subst (λ (x : ℕ). x < b' * c) p (subst (λ (x : ℕ). a * c' < x) q (mul-lt-mul_of_pos_right (ltb→lt a b h) C'))))

pub sub_mul : (a b c : ℕ) → (a - b) * c ≡ a * c - b * c
sub_mul a b c = mul_comm (a - b) c ∙ mul-sub c a b ∙ (λ i. mul_comm c a i - mul_comm c b i)

less_same : (a b c a' b' c' : ℕ) → a * c' ≡ a' * c → b * c' ≡ b' * c → (a - b) * c' ≡ (a' - b') * c
less_same a b c a' b' c' p q = sub_mul a b c' ∙ (λ i. p i - q i) ∙ sym (sub_mul a' b' c)

more_same : (a b c a' b' c' : ℕ) → a * c' ≡ a' * c → b * c' ≡ b' * c → (a + b) * c' ≡ (a' + b') * c
more_same a b c a' b' c' p q = add-mul a b c' ∙ (λ i. p i + q i) ∙ sym (add-mul a' b' c)

pub sum_same : (f : Format) (s : Bool) (a : ℕ) (t : Bool) (b c a' b' c' : ℕ) → 0 < c → 0 < c' → a * c' ≡ a' * c → b * c' ≡ b' * c → sum f s a t b c ≡ sum f s a' t b' c'
unfolding sum
sum_same f s a t b c a' b' c' C C' p q =
    let lt : ltb a b ≡ ltb a' b' = same_test (ltb a b) (ltb a' b') (scaled_ltb a b c a' b' c' C C' p q) (scaled_ltb a' b' c' a b c C' C (sym p) (sym q)) in
    let gt : ltb b a ≡ ltb b' a' = same_test (ltb b a) (ltb b' a') (scaled_ltb b a c b' a' c' C C' q p) (scaled_ltb b' a' c' b a c C' C (sym q) (sym p)) in
    (λ i. cond (beq s t) (round_same f s (a + b) c (a' + b') c' C C' (more_same a b c a' b' c' p q) i)
    (cond (lt i) (round_same f t (b - a) c (b' - a') c' C C' (less_same b a c b' a' c' q p) i) (round_same f (s && gt i) (a - b) c (a' - b') c' C C' (less_same a b c a' b' c' p q) i)))

sum_left : (M a c d de dd : ℕ) → M * c ≡ a * de → M * dd * (c * d) ≡ a * d * (de * dd)
sum_left M a c d de dd v = mul-mul-mul_comm M dd c d ∙ ap (λ (z : ℕ). z * (dd * d)) v ∙ simp (mul_comm, mul_left_comm)

sum_right : (N b c d de dd : ℕ) → N * d ≡ b * dd → N * de * (c * d) ≡ b * c * (de * dd)
sum_right N b c d de dd w = ap (λ (z : ℕ). N * de * z) (mul_comm c d) ∙ mul-mul-mul_comm N de d c ∙ ap (λ (z : ℕ). z * (de * c)) w ∙ simp (mul_comm, mul_left_comm)

pub add_value : (f : Format) (x y : Float) (s t : Bool) (a c b d : ℕ) → 0 < c → 0 < d → HasValue x s a c → HasValue y t b d → add f x y ≡ sum f s (a * d) t (b * c) (c * d)
unfolding add
add_value f (fin s' m e) (fin t' n g) s t a c b d C D v w =
    (λ i. sum f (v.0 i) (m * up e * down g) (w.0 i) (n * up g * down e) (down e * down g))
    ∙ sum_same f s (m * up e * down g) t (n * up g * down e) (down e * down g) (a * d) (b * c) (c * d) (mul-pos (down_pos e) (down_pos g)) (mul-pos C D)
    (sum_left (m * up e) a c d (down e) (down g) v.1) (sum_right (n * up g) b c d (down e) (down g) w.1)
add_value f nan y s t a c b d C D v w = elim v [ ]
add_value f (inf _) y s t a c b d C D v w = elim v [ ]
add_value f (fin s' m e) nan s t a c b d C D v w = elim w [ ]
add_value f (fin s' m e) (inf _) s t a c b d C D v w = elim w [ ]

-- ---- the order of two values that are not negative
pub lt_value : (x y : Float) (a c b d : ℕ) → 0 < c → 0 < d → HasValue x false a c → HasValue y false b d → lt x y ≡ ltb (a * d) (b * c)
unfolding lt
lt_value (fin s m e) (fin t n g) a c b d C D v w =
    let p = sum_left (m * up e) a c d (down e) (down g) v.1 in
    let q = sum_right (n * up g) b c d (down e) (down g) w.1 in
    let E = mul-pos (down_pos e) (down_pos g) in
    (λ i. below (v.0 i) (m * up e * down g) (w.0 i) (n * up g * down e))
    ∙ same_test (ltb (m * up e * down g) (n * up g * down e)) (ltb (a * d) (b * c))
    (scaled_ltb (m * up e * down g) (n * up g * down e) (down e * down g) (a * d) (b * c) (c * d) E (mul-pos C D) p q)
    (scaled_ltb (a * d) (b * c) (c * d) (m * up e * down g) (n * up g * down e) (down e * down g) (mul-pos C D) E (sym p) (sym q))
lt_value nan y a c b d C D v w = elim v [ ]
lt_value (inf _) y a c b d C D v w = elim v [ ]
lt_value (fin s m e) nan a c b d C D v w = elim w [ ]
lt_value (fin s m e) (inf _) a c b d C D v w = elim w [ ]
