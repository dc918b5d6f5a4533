-- `rounding::convert::narrow_digits` meets its contract: the digits at place 62 are rounded at a place that is known from the exponent. Assumes nothing.
use Rattle.std.proofs.Common.{◌≡◌, ℕ, ◌+◌, ◌-◌, ◌*◌, ◌%◌, ◌^◌, ◌<◌, ◌≤◌, sym, ap, ◌∙◌, subst, le_refl, lt_of_lt_of_le, lt_irrefl, mod-eq_of_lt, zero-lt-suc, mul-lt-mul_of_pos_right, arith}
use Rattle.std.proofs.Common.{lit<, lit≤, pow_mono, rules}
use lib.Count.{count_leading_zeros}
use lib.Ieee.{binary32, units}
use lib.Ieee.Nearest.{closest}
use Rattle.ieee.proofs.Rounding.{closest_le, closest_ge, closest_none}
use Rattle.rounding.proofs.Leading.{Placed, placed}
use Rattle.rounding.proofs.Narrowing.{rounded}
use Rattle.rounding.proofs.convert.narrow_digits.Goals as goal

abbrev shift : ℕ → ℕ
shift q = count_leading_zeros 64 q - 1

at62 : (q : ℕ) → 0 < q → q < 2 ^ 53 → Placed 53 1 q
at62 q P h = placed 53 1 q (lit≤ tt) P h

-- the digits as the code shifts them, of which none is lost
digits_are : (q : ℕ) → 0 < q → q < 2 ^ 53 → q * 2 ^ shift q % 2 ^ 64 ≡ q * 2 ^ shift q
digits_are q P h = mod-eq_of_lt (lt_of_lt_of_le (at62 q P h).high (lit≤ tt))

digits_lt : (q : ℕ) → 0 < q → q < 2 ^ 53 → q * 2 ^ shift q % 2 ^ 64 < 2 ^ 63
digits_lt q P h = subst (λ (n : ℕ). n < 2 ^ 63) (sym (digits_are q P h)) (at62 q P h).high

-- where the exponents meet
meet : (k z : ℕ) → z + 886 ≤ k → k + 149 + 39 ≡ z + 1074 + (k - (z + 886))
meet k z h = omega arith

meet_low : (k z : ℕ) → k < z + 886 → k + 149 + (z + 925 - k) ≡ z + 1074 + 0
meet_low k z h = omega arith

far : (k z : ℕ) → k < z + 886 → 39 ≤ z + 925 - k
far k z h = omega arith

tiny : (n d : ℕ) → n < 2 ^ 63 → 64 ≤ d → n * 2 < 2 ^ d
tiny n d h l = lt_of_lt_of_le (mul-lt-mul_of_pos_right h (zero-lt-suc 1)) (pow_mono {i = 64} l)

pub overflow_sub-z : goal.overflow_sub-z
overflow_sub-z c = let h = (at62 c.args.q c.requires.0 c.requires.1).least in omega arith

pub overflow_cast-z : goal.overflow_cast-z
overflow_cast-z c = let h = (at62 c.args.q c.requires.0 c.requires.1).most in record { fits = omega arith }

pub overflow_shl-digits : goal.overflow_shl-digits
overflow_shl-digits c = let h = (at62 c.args.q c.requires.0 c.requires.1).most in let l = (at62 c.args.q c.requires.0 c.requires.1).least in omega arith

pub overflow_add-z : goal.overflow_add-z
overflow_add-z c = let h = (at62 c.args.q c.requires.0 c.requires.1).most in record { fits = omega arith }

pub round_shift-requires : goal.round_shift-requires
round_shift-requires c = (lit< tt, digits_lt c.args.q c.requires.0 c.requires.1)

-- what is kept, from what `round_shift` ensures
pub pack_f32-requires : goal.pack_f32-requires
pack_f32-requires c =
    let a = c.args in
    let p = c.requires in
    let r = c.round_shift.ensures ∙ ap (λ (n : ℕ). closest n (2 ^ 39)) (digits_are a.q p.0 p.1) in
    let h = at62 a.q p.0 p.1 in
    let most = subst (λ (n : ℕ). n ≤ 2 ^ 24) (sym r) (closest_le (a.q * 2 ^ shift a.q) 39 24 h.high) in
    (omega arith, most, λ l. subst (λ (n : ℕ). 2 ^ 23 ≤ n) (sym r) (closest_ge (a.q * 2 ^ shift a.q) 39 23 h.low))

pub returns-then-z-k : goal.returns-then-z-k
returns-then-z-k c =
    let a = c.args in
    let p = c.requires in
    let h = at62 a.q p.0 p.1 in
    c.pack_f32.ensures
    ∙ ap (λ (n : ℕ). units binary32 a.sign n (a.k - (shift a.q + 886))) (c.round_shift.ensures ∙ ap (λ (n : ℕ). closest n (2 ^ 39)) (digits_are a.q p.0 p.1))
    ∙ sym (rounded a.sign a.q a.k (shift a.q) 39 (a.k - (shift a.q + 886)) (meet a.k (shift a.q) c.if-z-k.true) h.high (le_refl 39) (λ l. h.low))

pub overflow_add-d : goal.overflow_add-d
overflow_add-d c = let h = (at62 c.args.q c.requires.0 c.requires.1).most in record { fits = omega arith }

pub round_shift-requires-then-d-lt64 : goal.round_shift-requires-then-d-lt64
round_shift-requires-then-d-lt64 c = (omega arith, digits_lt c.args.q c.requires.0 c.requires.1)

pub pack_f32-requires-then-d-lt64 : goal.pack_f32-requires-then-d-lt64
pack_f32-requires-then-d-lt64 c =
    let a = c.args in
    let p = c.requires in
    let d = shift a.q + 925 - a.k in
    let r = c.round_shift-then-d-lt64.ensures ∙ ap (λ (n : ℕ). closest n (2 ^ d)) (digits_are a.q p.0 p.1) in
    let h = at62 a.q p.0 p.1 in
    let wide : 63 ≤ 24 + d = omega (arith, far a.k (shift a.q) c.if-z-k.false) in
    (lit< tt, subst (λ (n : ℕ). n ≤ 2 ^ 24) (sym r) (closest_le (a.q * 2 ^ shift a.q) d 24 (lt_of_lt_of_le h.high (pow_mono {i = 63} wide))), λ l. omega arith)

pub returns-then-d-lt64 : goal.returns-then-d-lt64
returns-then-d-lt64 c =
    let a = c.args in
    let p = c.requires in
    let d = shift a.q + 925 - a.k in
    let l = c.if-z-k.false in
    let h = at62 a.q p.0 p.1 in
    c.pack_f32-then-d-lt64.ensures
    ∙ ap (λ (n : ℕ). units binary32 a.sign n 0) (c.round_shift-then-d-lt64.ensures ∙ ap (λ (n : ℕ). closest n (2 ^ d)) (digits_are a.q p.0 p.1))
    ∙ sym (rounded a.sign a.q a.k (shift a.q) d 0 (meet_low a.k (shift a.q) l) h.high (far a.k (shift a.q) l) (λ (z : 0 < 0). absurd (lt_irrefl 0 z)))

pub returns : goal.returns
returns c =
    let a = c.args in
    let p = c.requires in
    let d = shift a.q + 925 - a.k in
    let l = c.if-z-k.false in
    let h = at62 a.q p.0 p.1 in
    c.pack_f32-2.ensures
    ∙ sym (rounded a.sign a.q a.k (shift a.q) d 0 (meet_low a.k (shift a.q) l) h.high (far a.k (shift a.q) l) (λ (z : 0 < 0). absurd (lt_irrefl 0 z))
    ∙ ap (λ (n : ℕ). units binary32 a.sign n 0) (closest_none (a.q * 2 ^ shift a.q) (2 ^ d) (tiny (a.q * 2 ^ shift a.q) d h.high c.if-d-lt64.false)))
