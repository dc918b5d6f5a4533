-- A frame of the strings from what its calls gave, in the order of the code; and a frame by the swell's exponential is the definition's. Assumes nothing.
use Prim.Native.Nat.{ℕ}
use mathlib.Core.Path.{◌≡◌, refl}
use lib.Ieee.{Float}
use Rattle.laws.specs.Run.{samples}
use Rattle.ieee.specs.Numbers.{c0, c0·12, c1, c3}
use Rattle.ieee.specs.Binary32.{◌⊕◌, ◌⊖◌, ◌⊗◌, ◌⊘◌}
use Rattle.ieee.specs.Order.{max_of}
use Rattle.osc.specs.Osc.{saw_of}
use Rattle.osc.specs.Phase.{wrapped}
use Rattle.frame_block.specs.Decay.{decay_at}
use Rattle.voice_strings.specs.Strings.{c0·99539, c1·00463, strings_lowpass, strings_at, strings_start, strings_frames}
use Rattle.voice_strings.specs.Block.{strings_by}
use Rattle.voice_strings.specs.declared.StringsState.{StringsState}
use Rattle.osc.specs.declared.Out.{Out}

module _ (e fi srf lpA : Float) where
  pub strings_frame :
      (s : StringsState) {f lowSaw midSaw highSaw low mid high : Float} →
      f ≡ max_of fi c0 →
      lowSaw ≡ saw_of s.low (f ⊗ c0·99539 ⊘ srf) →
      midSaw ≡ saw_of s.mid (f ⊗ c1 ⊘ srf) →
      highSaw ≡ saw_of s.high (f ⊗ c1·00463 ⊘ srf) →
      low ≡ wrapped (s.low ⊕ f ⊗ c0·99539 ⊘ srf) →
      mid ≡ wrapped (s.mid ⊕ f ⊗ c1 ⊘ srf) →
      high ≡ wrapped (s.high ⊕ f ⊗ c1·00463 ⊘ srf) →
      let lp = s.lp ⊕ lpA ⊗ ((c0 ⊕ lowSaw ⊕ midSaw ⊕ highSaw) ⊘ c3 ⊖ s.lp) in
      ◌≡◌ {A = (Out StringsState)} (record { sample = lp ⊗ (c1 ⊖ e); state = record { low = low; mid = mid; high = high; lp = lp } }) (strings_by e fi srf lpA s)
  unfolding strings_by
  strings_frame s b c d g h j k = rw (k, j, h, g, d, c, b)

pub strings_is : (fi srf lpA : Float) (i : ℕ) (s : StringsState) → strings_by (decay_at srf c0·12 i) fi srf lpA s ≡ strings_at fi srf lpA i s
unfolding strings_by strings_at
strings_is fi srf lpA i s = refl

-- the samples by the swell's exponentials are the definition's
pub by_swells : (f : ℕ → Float) (srf : Float) (n : ℕ)
    → samples (λ i. strings_by (decay_at srf c0·12 i) (f i) srf (strings_lowpass srf)) (λ r. r.sample) (λ r. r.state) strings_start n ≡ strings_frames f srf n
unfolding strings_frames
by_swells f srf n = λ j. samples (λ i s. strings_is (f i) srf (strings_lowpass srf) i s j) (λ r. r.sample) (λ r. r.state) strings_start n
