-- Every entry is one of the 24 highest, halved: the entry that stands whole octaves above it. Assumes nothing.
use Prim.Native.Nat.{ℕ, zero, suc, ◌+◌, ◌-◌, ◌*◌, ◌/◌, ◌<◌}
use mathlib.Core.Path.{◌≡◌, refl, sym, ap, ◌∙◌}
use native.Mathlib.Omega.{arith}
use lib.Ieee.{Float}
use Rattle.ieee.specs.Numbers.{c0·5}
use Rattle.ieee.specs.Binary32.{◌⊗◌}
use Rattle.quarter_tone.specs.Tones.{tone_at}
use Rattle.quarter_tone.specs.Halves.{halves}
use Rattle.quarter_tone.proofs.Octaves.{tone_half}

-- the entry k octaves above q, halved k times
pub tone_halved : (k q : ℕ) → q + 24 * k < 256 → halves (tone_at (q + 24 * k)) k ≡ tone_at q
unfolding halves
tone_halved zero q h = ap tone_at (omega arith)
tone_halved (suc k) q h =
    let up : q + 24 * suc k ≡ q + 24 + 24 * k = omega arith in
    ap (λ (p : ℕ). halves (tone_at p) k ⊗ c0·5) up ∙ ap (λ (x : Float). x ⊗ c0·5) (tone_halved k (q + 24) (omega arith)) ∙ sym (tone_half q (omega arith))

-- how many octaves q lies below the highest, and which of the 24 stands there
abbrev pub octaves : ℕ → ℕ
octaves q = (255 - q) / 24

abbrev pub place : ℕ → ℕ
place q = q + 24 * octaves q - 232

module _ (q : ℕ) (h : q < 256) where
  pub within_24 : place q < 24
  within_24 = omega arith

  pub from_highest : (x : Float) → x ≡ tone_at (232 + place q) → halves x (octaves q) ≡ tone_at q
  from_highest x e =
      let up : 232 + place q ≡ q + 24 * octaves q = omega arith in
      ap (λ (y : Float). halves y (octaves q)) (e ∙ ap tone_at up) ∙ tone_halved (octaves q) q (omega arith)

-- ---- the loop
pub halved_more : (x : Float) (k : ℕ) {y : Float} → y ≡ halves x k → y ⊗ c0·5 ≡ halves x (suc k)
unfolding halves
halved_more x k e = ap (λ (z : Float). z ⊗ c0·5) e

pub halved_none : (x : Float) → x ≡ halves x 0
unfolding halves
halved_none x = refl
