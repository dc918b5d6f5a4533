-- The entries rise (`tones_rise`), and 24 of them are an octave: each is twice the entry 24 places below (`tone_twice`), and so half the one 24 places above
-- (`tone_half`), as f32 multiplications. Assumes nothing.
use Prim.Native.Nat.{ℕ, zero, suc, ◌+◌, ◌^◌, ◌<◌}
use mathlib.Core.Path.{◌≡◌, sym, ap, ◌∙◌, subst}
use mathlib.Core.Bool.{Bool, true}
use mathlib.Core.Logic.{inl, inr}
use native.Mathlib.Nat.{lt_trans, eq-or-lt_of_le, le_of_suc-le-suc, not-suc-le-zero, mul-lt-mul_of_pos_right}
use native.Mathlib.Omega.{arith}
use borrow.Author.Tests.{lt-ltb}
use lib.Dec.{T, ltb, eqb, ltb→lt, eqb→eq}
use lib.Pow.{pow_pos}
use lib.Ieee.{Float, binary32, of_bits, to_bits, fits, lt, mul, round, odd, size, units, span, climb}
use lib.Ieee.Bits.{of_bits-to_bits}
use Rattle.ieee.specs.Numbers.{c2, c0·5}
use Rattle.ieee.specs.Binary32.{◌⊗◌}
use Rattle.ieee.proofs.Value.{lt_value}
use Rattle.quarter_tone.specs.Tones.{patterns, pattern_at, tone_at}
use Rattle.quarter_tone.specs.Rule.{units_of}
use Rattle.quarter_tone.proofs.Table.{both, left, right, Passes, at}
use Rattle.quarter_tone.proofs.Amid.{amid_value}
use Rattle.quarter_tone.proofs.Nearest.{amid_tone}

-- ---- rising
abbrev units_at : ℕ → ℕ
units_at q = units_of (pattern_at q)

all_rise : Passes (λ q. ltb (units_at q) (units_at (suc q))) 255
unfolding patterns
all_rise = record { computed = tt }

units_rise : (q r : ℕ) → q < r → r < 256 → units_at q < units_at r
units_rise q zero l h = absurd (not-suc-le-zero l)
units_rise q (suc r) l h = elim (eq-or-lt_of_le (le_of_suc-le-suc l)) [
  | inl e ↦ subst (λ (q : ℕ). units_at q < units_at (suc r)) (sym e) next
  | inr m ↦ lt_trans (units_rise q r m (omega arith)) next
]
  where
    next : units_at r < units_at (suc r)
    next = ltb→lt (units_at r) (units_at (suc r)) (at all_rise r (omega arith))

pub tones_rise : (q r : ℕ) → q < r → r < 256 → lt (tone_at q) (tone_at r) ≡ true
tones_rise q r l h =
    lt_value (tone_at q) (tone_at r) (units_at q) (2 ^ 149) (units_at r) (2 ^ 149) (pow_pos 149) (pow_pos 149) (amid_value (pattern_at q) (amid_tone q (lt_trans l h)))
    (amid_value (pattern_at r) (amid_tone r h))
    ∙ lt-ltb _ _ (mul-lt-mul_of_pos_right (units_rise q r l h) (pow_pos 149))

-- ---- octaves
-- the float x has the pattern b
abbrev is : Float → ℕ → Bool
is x b = both (fits binary32 x) (eqb (to_bits binary32 x) b)

has_pattern : (x : Float) (b : ℕ) → T (is x b) → of_bits binary32 b ≡ x
has_pattern x b t =
    ap (of_bits binary32) (sym (eqb→eq (to_bits binary32 x) b (right (fits binary32 x) (eqb (to_bits binary32 x) b) t)))
    ∙ of_bits-to_bits binary32 x (left (fits binary32 x) (eqb (to_bits binary32 x) b) t)

all_twice : Passes (λ q. is (tone_at q ⊗ c2) (pattern_at (q + 24))) 232
unfolding patterns of_bits to_bits fits mul round odd size units span climb
all_twice = record { computed = tt }

all_half : Passes (λ q. is (tone_at (q + 24) ⊗ c0·5) (pattern_at q)) 232
unfolding patterns of_bits to_bits fits mul round odd size units span climb
all_half = record { computed = tt }

module _ (q : ℕ) (h : q + 24 < 256) where
  pub tone_twice : tone_at (q + 24) ≡ tone_at q ⊗ c2
  tone_twice = has_pattern (tone_at q ⊗ c2) (pattern_at (q + 24)) (at all_twice q (omega arith))

  pub tone_half : tone_at q ≡ tone_at (q + 24) ⊗ c0·5
  tone_half = has_pattern (tone_at (q + 24) ⊗ c0·5) (pattern_at q) (at all_half q (omega arith))
