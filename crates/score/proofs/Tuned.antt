-- A quarter tone is sized, so that 10 judges the gain alone of a note by a quarter tone. Assumes nothing.
use Prim.Native.Nat.{ℕ, zero, suc, ◌<◌}
use mathlib.Core.Path.{◌≡◌, refl, ap, ◌∙◌}
use mathlib.Core.Bool.{Bool, true, false, cond}
use mathlib.Core.Logic.{inl, inr}
use native.Mathlib.Nat.{eq-or-lt_of_le, le_of_suc-le-suc, not-suc-le-zero}
use lib.Ieee.{of_bits, le}
use Rattle.ieee.specs.Sign.{abs_of}
use Rattle.quarter_tone.specs.Tones.{patterns, tone_at}
use Rattle.dsl.specs.Sized.{sized_of}

-- whether the first n entries of the table are sized: one test that the checker computes
abbrev tones_sized : ℕ → Bool
tones_sized zero = true
tones_sized (suc n) = cond (sized_of (tone_at n)) (tones_sized n) false

all_sized_lem : tones_sized 256 ≡ true
unfolding patterns sized_of abs_of le of_bits
all_sized_lem = refl

last_sized : (b rest : Bool) → cond b rest false ≡ true → (b ≡ true) × (rest ≡ true)
last_sized true rest e = (refl, e)
last_sized false rest e = (e, cc)

each_sized : (n : ℕ) → tones_sized n ≡ true → (q : ℕ) → q < n → sized_of (tone_at q) ≡ true
each_sized zero e q h = absurd (not-suc-le-zero h)
each_sized (suc n) e q h = elim (eq-or-lt_of_le (le_of_suc-le-suc h)) [
  | inl is ↦ ap (λ (k : ℕ). sized_of (tone_at k)) is ∙ (last_sized (sized_of (tone_at n)) (tones_sized n) e).0
  | inr l ↦ each_sized n (last_sized (sized_of (tone_at n)) (tones_sized n) e).1 q l
]

pub tone_sized : (q : ℕ) → q < 256 → sized_of (tone_at q) ≡ true
tone_sized = each_sized 256 all_sized_lem
