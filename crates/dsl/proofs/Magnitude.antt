-- "finite and of magnitude at most 65,536", of each kind of value. Assumes nothing.
use mathlib.Core.Path.{◌≡◌, refl, sym, ap, ◌∙◌, subst}
use Prim.Native.Nat.{ℕ, ◌+◌, ◌*◌, ◌≤◌, ◌<◌}
use native.Mathlib.Omega.{arith}
use native.Mathlib.Nat.{mul-pos, eq-or-lt_of_le, le_of_lt, le_of_eq}
use mathlib.Core.Logic.{inl, inr}
use mathlib.Core.Bool.{Bool, true, false, not, ◌||◌, ◌&&◌, true≢false, false≢true}
use lib.IntN.{ℤ}
use lib.Dec.{T, ltb, leb, eqb, eqb_refl, ltb→lt, lt→ltb, leb→le, le→leb, eqb→eq}
use borrow.Author.Tests.{lt-ltb}
use lib.Ieee.Fits.{down_pos}
use lib.Ieee.{Float, nan, inf, fin, up, down, lt, eq, le, neg, of_bits, is_nan}
use Rattle.ieee.specs.Sign.{abs_of}
use Rattle.ieee.proofs.Value.{same_test}
use Rattle.dsl.specs.declared.pitch.Pitch.{Pitch}
use Rattle.dsl.specs.declared.pitch.Pitch.TheVariants.{Const, Curve}
use Rattle.dsl.specs.Sized.{c65536, sized_of, pitch_sized}
use Rattle.dsl.specs.Domain.{numeric}

pub sized_nan : sized_of nan ≡ false
unfolding sized_of abs_of le
sized_nan = refl

pub sized_inf : (s : Bool) → sized_of (inf s) ≡ false
unfolding sized_of abs_of le of_bits
sized_inf s = refl

-- a test of `<` or `=`, as `le` makes it of two numbers with one sign
either_le : (a b : ℕ) → (ltb a b || (eqb a b && true)) ≡ leb a b
either_le a b = same_test _ (leb a b) (λ t. le→leb a b (down_le (ltb a b) (eqb a b) (ltb→lt a b) (eqb→eq a b) t)) (λ t. up_le (leb→le a b t))
  where
    down_le : (x y : Bool) → (T x → a < b) → (T y → a ≡ b) → T (x || (y && true)) → a ≤ b
    down_le true y p q t = le_of_lt (p tt)
    down_le false true p q t = le_of_eq (q tt)
    down_le false false p q t = absurd t

    or_l : (x y : Bool) → T x → T (x || y)
    or_l true y t = tt
    or_l false y t = absurd t

    or_r : (x y : Bool) → T y → T (x || (y && true))
    or_r true y t = tt
    or_r false true t = tt
    or_r false false t = t

    up_le : a ≤ b → T (ltb a b || (eqb a b && true))
    up_le h = elim (eq-or-lt_of_le h) [ inl p ↦ or_r (ltb a b) (eqb a b) (subst (λ (x : ℕ). T (eqb a x)) p (eqb_refl a)) | inr l ↦ or_l (ltb a b) (eqb a b && true) (lt→ltb a b l) ]

-- m * 2 ^ e of either sign
pub sized_fin : (s : Bool) (m : ℕ) (e : ℤ) → sized_of (fin s m e) ≡ leb (m * up e * 1) (65536 * down e)
unfolding sized_of abs_of le of_bits
sized_fin s m e = either_le (m * up e * 1) (65536 * down e)

eqb_sym : (a b : ℕ) → eqb a b ≡ eqb b a
eqb_sym a b = same_test (eqb a b) (eqb b a) (turned a b) (turned b a)
  where
    turned : (a b : ℕ) → T (eqb a b) → T (eqb b a)
    turned a b t = subst (λ (x : ℕ). T (eqb x a)) (eqb→eq a b t) (eqb_refl a)

-- a negative number, or a zero, against a positive one
across : (a b : ℕ) (r : Bool) → 0 < a + b → (ltb 0 (a + b) || r) ≡ true
across a b r h = ap (λ (t : Bool). t || r) (lt-ltb 0 (a + b) h)

some : (e : ℤ) → 0 < 65536 * down e
some e = mul-pos (omega arith) (down_pos e)

-- one test from each side: at most 65,536, and at least its negative
pub sized_within : (x : Float) → le x c65536 ≡ true → le (neg c65536) x ≡ sized_of x
unfolding sized_of abs_of le lt eq neg of_bits
sized_within nan h = absurd (false≢true h)
sized_within (inf true) h = refl
sized_within (inf false) h = absurd (false≢true h)
sized_within (fin true m e) h = ap (λ (t : Bool). ltb (m * up e * 1) (65536 * down e) || (t && true)) (eqb_sym (65536 * down e) (m * up e * 1))
sized_within (fin false m e) h = across (65536 * down e) (m * up e * 1) _ (omega (arith, some e)) ∙ sym h

pub sized_above : (x : Float) → le x c65536 ≡ false → false ≡ sized_of x
unfolding sized_of abs_of le lt eq neg of_bits
sized_above nan h = refl
sized_above (inf true) h = absurd (true≢false h)
sized_above (inf false) h = refl
sized_above (fin true m e) h = absurd (true≢false (sym (across (m * up e * 1) (65536 * down e) _ (omega (arith, some e))) ∙ h))
sized_above (fin false m e) h = sym h

pub sized_number : (x : Float) → sized_of x ≡ true → T (not (is_nan x))
unfolding is_nan
sized_number nan h = absurd (false≢true (sym sized_nan ∙ h))
sized_number (inf s) h = tt
sized_number (fin s m e) h = tt

-- what refusal 10 lets through is a number
pub sized_numeric : (p : Pitch) → pitch_sized p ≡ true → numeric p
unfolding pitch_sized
sized_numeric (Const x) h = sized_number x h
sized_numeric (Curve offset) h = tt
