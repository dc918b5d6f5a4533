-- What narrows to zero and what to an infinity: a value of at most 2 ^ -151 in size, and one of at least 2 ^ 128. Assumes nothing.
use mathlib.Core.Path.{◌≡◌, refl, sym, ap, ◌∙◌, subst}
use mathlib.Core.Bool.{Bool, true, false}
use Prim.Native.Nat.{ℕ, ◌-◌, ◌*◌, ◌^◌, ◌≤◌, ◌<◌}
use native.Mathlib.Nat.{div-eq_of_lt, mul_assoc}
use native.Mathlib.Omega.{arith}
use lib.IntN.{pos}
use lib.Dec.{T, lit<}
use lib.Ieee.{Float, nan, inf, fin, binary32, up, down, size, units, odd, round, le}
use lib.Ieee.Fits.{down_pos, round_is}
use lib.Ieee.Order.{round_mono}
use lib.Ieee.Nearest.{closest}
use Rattle.ieee.specs.Sign.{sign_of}
use Rattle.ieee.specs.Narrow.{narrow_of}
use Rattle.ieee.proofs.Rounding.{closest_none}
use Rattle.ieee.proofs.Bounded.{Bounded, Beyond}

-- a / c is 2 ^ -151 or less: less than half of the smallest value
none : (s : Bool) (a c : ℕ) → 0 < c → a * 2 ^ 151 ≤ 1 * c → round binary32 s a c ≡ fin s 0 (pos 0)
unfolding units odd size
none s a c C h =
    round_is binary32 s a c
    ∙ ap (λ (k : ℕ). units binary32 s (closest (a * 2 ^ 149) (c * 2 ^ k)) k) (ap (λ (w : ℕ). size w - 24) (div-eq_of_lt less))
    ∙ ap (λ (q : ℕ). units binary32 s q 0) (closest_none (a * 2 ^ 149) (c * 2 ^ 0) half)
  where
    quarter : a * 2 ^ 149 * 4 ≤ 1 * c
    quarter = subst (λ (n : ℕ). n ≤ 1 * c) (sym (mul_assoc a (2 ^ 149) 4)) h

    under : (n c : ℕ) → 0 < c → n * 4 ≤ 1 * c → (n < c) × (n * 2 < c * 1)
    under n c C h = (omega arith, omega arith)

    less : a * 2 ^ 149 < c
    less = (under (a * 2 ^ 149) c C quarter).0

    half : a * 2 ^ 149 * 2 < c * 1
    half = (under (a * 2 ^ 149) c C quarter).1

pub narrow_none : (x : Float) → Bounded x 1 (2 ^ 151) → narrow_of x ≡ fin (sign_of x) 0 (pos 0)
unfolding narrow_of
narrow_none nan h = absurd h
narrow_none (inf s) h = absurd h
narrow_none (fin s m e) h = none s (m * up e) (down e) (down_pos e) h

-- 2 ^ 128 or more
above : (x : Float) → T (le (inf false) x) → x ≡ inf false
unfolding le
above nan t = absurd t
above (inf true) t = absurd t
above (inf false) t = refl
above (fin s m e) t = absurd t

top : round binary32 false (2 ^ 128) 1 ≡ inf false
unfolding round size units odd
top = refl

pub narrow_infinite : (x : Float) → Beyond false x (2 ^ 128) 1 → narrow_of x ≡ inf false
unfolding narrow_of
narrow_infinite nan h = absurd h
narrow_infinite (inf s) h = ap inf h
narrow_infinite (fin s m e) h =
    ap (λ (b : Bool). round binary32 b (m * up e) (down e)) h.0
    ∙ above (round binary32 false (m * up e) (down e))
    (subst (λ (y : Float). T (le y (round binary32 false (m * up e) (down e)))) top (round_mono binary32 (2 ^ 128) 1 (m * up e) (down e) (lit< tt) (down_pos e) h.1))
