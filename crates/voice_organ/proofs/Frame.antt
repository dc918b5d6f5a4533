-- A frame of the organ from what its calls gave, in the order of the code. Assumes nothing.
use Prim.Native.Nat.{ℕ}
use mathlib.Core.Path.{◌≡◌}
use lib.Ieee.{Float, neg}
use Rattle.ieee.specs.Numbers.{c0, c0·2, c0·5}
use Rattle.ieee.specs.Binary32.{◌⊕◌, ◌⊗◌, ◌⊘◌}
use Rattle.dsl.specs.Drawbars.{c6}
use Rattle.dsl.specs.declared.knobs.Drawbars.{Drawbars}
use Rattle.dsp.specs.Kernels.{TAU, sin_of, exp_of}
use Rattle.osc.specs.Phase.{seconds}
use Rattle.voice_organ.specs.Block.{organ_next}
use Rattle.voice_organ.specs.Organ.{organ_at}
use Rattle.osc.specs.declared.Out.{Out}

module _ (b : Drawbars) (norm fi srf : Float) (i : ℕ) where
  pub organ_frame :
      (phase : Float) {t sixth first second third fourth fifth ping next : Float} →
      t ≡ seconds srf i →
      sixth ≡ sin_of (TAU ⊗ phase ⊗ c6) →
      first ≡ sin_of (TAU ⊗ phase ⊗ b.ratio1) →
      second ≡ sin_of (TAU ⊗ phase ⊗ b.ratio2) →
      third ≡ sin_of (TAU ⊗ phase ⊗ b.ratio3) →
      fourth ≡ sin_of (TAU ⊗ phase ⊗ b.ratio4) →
      fifth ≡ sin_of (TAU ⊗ phase ⊗ b.ratio5) →
      ping ≡ exp_of (neg t ⊘ c0·2) →
      next ≡ organ_next fi srf phase →
      let s = c0 ⊕ b.level1 ⊗ first ⊕ b.level2 ⊗ second ⊕ b.level3 ⊗ third ⊕ b.level4 ⊗ fourth ⊕ b.level5 ⊗ fifth ⊕ c0·5 ⊗ ping ⊗ sixth in
      ◌≡◌ {A = (Out Float)} (record { sample = s ⊗ norm; state = next }) (organ_at b norm fi srf i phase)
  unfolding organ_at
  organ_frame phase a c d e g h j k l = rw (l, k, j, h, g, e, d, c, a)
