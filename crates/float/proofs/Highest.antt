-- The highest bit of a pattern is the number's sign. Assumes nothing.
use Rattle.std.proofs.Common.{◌≡◌, ℕ, zero, suc, ◌+◌, ◌-◌, ◌/◌, ◌%◌, ◌^◌, ◌<◌, ◌≤◌, Bool, true, false, cond, not, T, eqb, leb, pos, sym, refl, ap, ◌∙◌, subst, arith, leb→le}
use lib.Dec.{nleb→lt}
use lib.Ieee.{Float, nan, inf, fin, binary32, odd, fits, is_nan, of_fields, of_bits, to_bits}
use lib.Ieee.Bits.{to_bits-lt}
use Rattle.ieee.specs.Sign.{signum_of}
use Rattle.ieee.proofs.Fields.{as_fields}

odd_signum : (d : ℕ) (s : Bool) (q k l : ℕ) → signum_of (odd d s q k l) ≡ fin s 1 (pos 0)
unfolding odd signum_of
odd_signum d s zero k l = refl
odd_signum d s (suc q) k l = refl

top_signum : (s : Bool) (b c : Bool) (v : Float) → T (not (is_nan (cond b (cond c (inf s) nan) v))) → signum_of v ≡ fin s 1 (pos 0) → signum_of (cond b (cond c (inf s) nan) v) ≡ fin s 1 (pos 0)
unfolding is_nan signum_of
top_signum s true true v n e = refl
top_signum s true false v n e = absurd n
top_signum s false c v n e = e

fields_signum : (s : Bool) (x t : ℕ) → T (not (is_nan (of_fields binary32 s x t))) → signum_of (of_fields binary32 s x t) ≡ fin s 1 (pos 0)
unfolding of_fields
fields_signum s zero t n = odd_signum 24 s t 0 149
fields_signum s (suc x) t n = top_signum s (eqb (suc x) 255) (eqb t 0) (odd 24 s (2 ^ 23 + t) x 149) n (odd_signum 24 s (2 ^ 23 + t) x 149)

-- the pattern of 1 under the highest bit of b
one_under : (b : ℕ) → b < 2 ^ 32 → of_bits binary32 (b - b % 2 ^ 31 + 0x3f80_0000) ≡ fin (leb (2 ^ 31) b) 1 (pos 0)
one_under b h = go (leb (2 ^ 31) b) (leb→le (2 ^ 31) b) (nleb→lt (2 ^ 31) b)
  where
    one_is : (s : Bool) → of_bits binary32 (cond s (2 ^ 31) 0 + 0x3f80_0000) ≡ fin s 1 (pos 0)
    one_is true = unfold of_bits in refl
    one_is false = unfold of_bits in refl

    go : (s : Bool) → (T s → 2 ^ 31 ≤ b) → (T (not s) → b < 2 ^ 31) → of_bits binary32 (b - b % 2 ^ 31 + 0x3f80_0000) ≡ fin s 1 (pos 0)
    go true p q =
        let l = p tt in
        let e : b - b % 2 ^ 31 ≡ 2 ^ 31 = omega arith in
        ap (λ (n : ℕ). of_bits binary32 (n + 0x3f80_0000)) e ∙ one_is true
    go false p q =
        let l = q tt in
        let e : b - b % 2 ^ 31 ≡ 0 = omega arith in
        ap (λ (n : ℕ). of_bits binary32 (n + 0x3f80_0000)) e ∙ one_is false

pub signum_nan : (x : Float) → x ≡ nan → x ≡ signum_of x
unfolding signum_of
signum_nan x e = e ∙ ap signum_of (sym e)

pub signum_bits : (x : Float) → T (fits binary32 x) → T (not (is_nan x)) → of_bits binary32 (to_bits binary32 x - to_bits binary32 x % 2 ^ 31 + 0x3f80_0000) ≡ signum_of x
signum_bits x fit n =
    let b = to_bits binary32 x in
    let is = as_fields binary32 x fit in
    one_under b (to_bits-lt binary32 x fit)
    ∙ sym (ap signum_of is ∙ fields_signum (leb (2 ^ 31) b) (b % 2 ^ 31 / 2 ^ 23) (b % 2 ^ 23) (subst (λ (y : Float). T (not (is_nan y))) is n))
