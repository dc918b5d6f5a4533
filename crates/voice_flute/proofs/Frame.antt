-- A frame of the flute from what its calls gave, in the order of the code, is the definition's. Assumes nothing.
use mathlib.Core.Path.{◌≡◌, refl, ◌∙◌}
use Prim.Native.Nat.{ℕ}
use lib.Ieee.{Float, neg}
use Rattle.ieee.specs.Numbers.{c0·15}
use Rattle.ieee.specs.Binary32.{◌⊗◌, ◌⊘◌}
use Rattle.dsp.specs.Kernels.{TAU, sin_of, exp_of}
use Rattle.osc.specs.Phase.{seconds}
use Rattle.frame_block.specs.Decay.{decay_at}
use Rattle.voice_flute.specs.Flute.{flute_at}
use Rattle.voice_flute.specs.Block.{flute_next, flute_mix}
use Rattle.voice_flute.specs.declared.FluteState.{FluteState}
use Rattle.osc.specs.declared.Out.{Out}

module _ (fi gain srf lpA : Float) (i : ℕ) (s : FluteState) where
  abbrev pub after : FluteState
  after = flute_next (decay_at srf c0·15 i) fi srf lpA s

  whole_sample : flute_mix (sin_of (TAU ⊗ after.phase)) gain after.lp ≡ (flute_at fi gain srf lpA i s).sample
  unfolding flute_next flute_mix flute_at
  whole_sample = refl

  whole_state : after ≡ (flute_at fi gain srf lpA i s).state
  unfolding flute_next flute_at
  whole_state = refl

  pub flute_sample : {s' : FluteState} {tone lp : Float} → s' ≡ after → tone ≡ sin_of (TAU ⊗ s'.phase) → lp ≡ s'.lp → flute_mix tone gain lp ≡ (flute_at fi gain srf lpA i s).sample
  flute_sample z a b = rw (a, b, z) whole_sample

  pub flute_frame :
      {t e tone y : Float} {s' : FluteState} →
      t ≡ seconds srf i →
      e ≡ exp_of (neg t ⊘ c0·15) →
      s' ≡ flute_next e fi srf lpA s →
      tone ≡ sin_of (TAU ⊗ s'.phase) →
      y ≡ flute_mix tone gain s'.lp →
      ◌≡◌ {A = (Out FluteState)} (record { sample = y; state = s' }) (flute_at fi gain srf lpA i s)
  flute_frame {s' = s'} a b c d g =
      let is : s' ≡ after = c ∙ rw (b, a) in
      let same : _ ≡ (flute_at fi gain srf lpA i s).sample = g ∙ flute_sample is d refl in
      λ j. record { sample = same j; state = (is ∙ whole_state) j }
