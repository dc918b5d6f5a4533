-- The remainder of two floats by value: in units of the format's smallest value it is the remainder of the two whole numbers, and nothing is rounded. Assumes nothing.
use Prim.Native.Nat.{ℕ, zero, suc, ◌+◌, ◌-◌, ◌*◌, ◌/◌, ◌%◌, ◌^◌, ◌≤◌, ◌<◌}
use mathlib.Core.Path.{◌≡◌, refl, sym, ap, ◌∙◌, subst}
use mathlib.Core.Bool.{Bool, true, false, cond}
use native.Mathlib.Omega.{arith}
use native.Mathlib.Nat.{div-add-mod', add-mul, mul_assoc, mul_comm, mul_right_comm, zero-mul, mul-pos, mul-lt-mul_of_pos_right, mod-lt, mod-le, zero-lt-suc, lt_of_le_of_lt}
use borrow.Author.Tests.{leb-true, leb-false, ne_eqb}
use lib.Dec.{leb}
use lib.Arith.{digits_mod}
use lib.Pow.{pow-add, pow_pos}
use lib.Ieee.{Float, nan, fin, Format, prec, emax, low, up, down, round, rem}
use lib.Ieee.Fits.{up_pos, down_pos, round-fits}
use lib.Ieee.Exact.{HasValue, round_exact}
use lib.Ieee.Scale.{round_same}
use Rattle.ieee.specs.Nearest.{IsValue}
use Rattle.ieee.specs.Remainder.{Remainder}
use Rattle.ieee.proofs.Halves.{Short}
use Rattle.ieee.proofs.Units.{short, value_below}

-- a factor of both numbers is one of the remainder
pub mod_scale : (a b k : ℕ) → 0 < b → 0 < k → a % b * k ≡ a * k % (b * k)
mod_scale a b k hb hk =
    let whole : a * k ≡ a / b * (b * k) + a % b * k =
    ap (λ (z : ℕ). z * k) (sym (div-add-mod' a b)) ∙ add-mul (a / b * b) (a % b) k ∙ ap (λ (z : ℕ). z + a % b * k) (mul_assoc (a / b) b k) in
    sym (ap (λ (z : ℕ). z % (b * k)) whole ∙ digits_mod (a / b) {m = b * k} {r = a % b * k} (mul-lt-mul_of_pos_right (mod-lt a hb) hk))

-- ---- the remainder of two short numbers is short
pow_split : (i j : ℕ) → j ≤ i → 2 ^ i ≡ 2 ^ (i - j) * 2 ^ j
pow_split i j h = let e : i ≡ i - j + j = omega arith in ap (λ (z : ℕ). 2 ^ z) e ∙ pow-add 2 (i - j) j

module _ (p m n a b : ℕ) (hm : m < 2 ^ p) (hn : n < 2 ^ p) (pos-n : 0 < n) where
  mod_short : (t : Bool) → leb b a ≡ t → Short p (m * 2 ^ a % (n * 2 ^ b))
  mod_short true t =
      let e : m * 2 ^ a ≡ m * 2 ^ (a - b) * 2 ^ b = ap (λ (z : ℕ). m * z) (pow_split a b (leb-true b a t)) ∙ sym (mul_assoc m (2 ^ (a - b)) (2 ^ b)) in
      record {
        n = m * 2 ^ (a - b) % n;
        j = b;
        small = omega (arith, mod-lt (m * 2 ^ (a - b)) pos-n);
        is = ap (λ (z : ℕ). z % (n * 2 ^ b)) e ∙ sym (mod_scale (m * 2 ^ (a - b)) n (2 ^ b) pos-n (pow_pos b));
      }
  mod_short false t =
      let le : a ≤ b = omega (arith, leb-false b a t) in
      let e : n * 2 ^ b ≡ n * 2 ^ (b - a) * 2 ^ a = ap (λ (z : ℕ). n * z) (pow_split b a le) ∙ sym (mul_assoc n (2 ^ (b - a)) (2 ^ a)) in
      record {
        n = m % (n * 2 ^ (b - a));
        j = a;
        small = omega (arith, mod-le m (n * 2 ^ (b - a)));
        is = ap (λ (z : ℕ). m * 2 ^ a % z) e ∙ sym (mod_scale m (n * 2 ^ (b - a)) (2 ^ a) (mul-pos pos-n (pow_pos (b - a))) (pow_pos a));
      }

-- ---- the remainder by value
scaled : (m d c x e : ℕ) → m * c ≡ x * e → m * d * c ≡ x * (e * d)
scaled m d c x e v = mul_right_comm m d c ∙ ap (λ (z : ℕ). z * d) v ∙ mul_assoc x e d

module _ (f : Format) (s t : Bool) (X Y : ℕ) (pos-Y : 0 < Y) where
  pub rem_value : (x y : Float) → HasValue x s X (2 ^ low f) → HasValue y t Y (2 ^ low f) → rem f x y ≡ round f s (X % Y) (2 ^ low f)
  unfolding rem
  rem_value (fin s' m e) (fin t' zero d) v w =
      absurd (omega (arith, zero-mul (up d), zero-mul (2 ^ low f), w.1, mul-pos pos-Y (down_pos d)))
  rem_value (fin s' m e) (fin t' (suc n) d) v w =
      let l = 2 ^ low f in
      let C = down e * down d in
      let A = m * up e * down d in
      let B = suc n * up d * down e in
      let pos_B : 0 < B = mul-pos (mul-pos (zero-lt-suc n) (up_pos d)) (down_pos e) in
      let pos_C : 0 < C = mul-pos (down_pos e) (down_pos d) in
      let ea : A * l ≡ X * C = scaled (m * up e) (down d) l X (down e) v.1 in
      let eb : B * l ≡ Y * C = scaled (suc n * up d) (down e) l Y (down d) w.1 ∙ ap (λ (z : ℕ). Y * z) (mul_comm (down d) (down e)) in
      let same : A % B * l ≡ X % Y * C =
      mod_scale A B l pos_B (pow_pos (low f)) ∙ ap (λ (z : ℕ). z % (B * l)) ea ∙ ap (λ (z : ℕ). X * C % z) eb ∙ sym (mod_scale X Y C pos-Y pos_C) in
      ap (λ (b : Bool). cond b nan (round f s' (A % B) C)) (ne_eqb (suc n) 0 (λ (e : suc n ≡ 0). omega arith))
      ∙ ap (λ (z : Bool). round f z (A % B) C) v.0
      ∙ round_same f s (A % B) C (X % Y) l pos_C (pow_pos (low f)) same
  rem_value nan y v w = elim v [ ]
  rem_value (lib.Ieee.inf _) y v w = elim v [ ]
  rem_value (fin s' m e) nan v w = elim w [ ]
  rem_value (fin s' m e) (lib.Ieee.inf _) v w = elim w [ ]

first_pos : (n b k : ℕ) → n * b ≡ k → 0 < k → 0 < n
first_pos zero b k e h = absurd (omega (arith, zero-mul b))
first_pos (suc n) b k e h = zero-lt-suc n

-- ---- the words of the definition: nothing is rounded
pub rem_exact : (f : Format) (s t : Bool) (X Y : ℕ) (x y : Float) → IsValue f s X x → IsValue f t Y y → 0 < Y → IsValue f s (X % Y) (rem f x y)
rem_exact f s t X Y x y v w pos-Y =
    let a = short f s X x v in
    let b = short f t Y y w in
    let n_pos : 0 < b.n = first_pos b.n (2 ^ b.j) Y (sym b.is) pos-Y in
    let r : Short (prec f) (X % Y) =
    subst (λ (z : ℕ). Short (prec f) (X % z)) (sym b.is)
    (subst (λ (z : ℕ). Short (prec f) (z % (b.n * 2 ^ b.j))) (sym a.is) (mod_short (prec f) a.n b.n a.j b.j a.small b.small n_pos (leb b.j a.j) refl)) in
    subst (λ (z : Float). IsValue f s (X % Y) z) (sym (rem_value f s t X Y pos-Y x y v.is w.is))
    (record {
      held = round-fits f s (X % Y) (2 ^ low f);
      is = round_exact f s (X % Y) (2 ^ low f) r.n r.j (pow_pos (low f)) r.small
          (subst (λ (z : ℕ). z < 2 ^ (low f + suc (emax f))) r.is (lt_of_le_of_lt (mod-le X Y) (value_below f s X x v)))
          (ap (λ (z : ℕ). z * 2 ^ low f) r.is);
    })

pub rem_is : (f : Format) (s t : Bool) (X Y : ℕ) (x y : Float) → IsValue f s X x → IsValue f t Y y → 0 < Y → Remainder f s X Y (rem f x y)
rem_is f s t X Y x y v w pos-Y =
    let e = div-add-mod' X Y in
    let l = mod-lt X pos-Y in
    record {
      n = X / Y;
      quotient = record { no_greater = parts (X / Y * Y) (X % Y) X e; closest = next (X / Y) (X % Y) X Y e l };
      is = subst (λ (z : ℕ). IsValue f s z (rem f x y)) (rest (X / Y * Y) (X % Y) X e) (rem_exact f s t X Y x y v w pos-Y);
    }
  where
    parts : (q r X : ℕ) → q + r ≡ X → q ≤ X
    parts q r X e = omega arith

    rest : (q r X : ℕ) → q + r ≡ X → r ≡ X - q
    rest q r X e = omega arith

    next : (n r X Y : ℕ) → n * Y + r ≡ X → r < Y → X < (n + 1) * Y
    next n r X Y e l = omega arith
