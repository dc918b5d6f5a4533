-- A frame of brass from what its calls gave, in the order of the code; and a frame by the filter's opening is the definition's. Assumes nothing.
use Prim.Native.Nat.{ℕ}
use mathlib.Core.Path.{◌≡◌, refl}
use lib.Ieee.{Float}
use Rattle.laws.specs.Run.{samples}
use Rattle.ieee.specs.Numbers.{c0, c0·5}
use Rattle.ieee.specs.Binary32.{◌⊕◌, ◌⊖◌, ◌⊗◌, ◌⊘◌}
use Rattle.ieee.specs.Order.{max_of}
use Rattle.osc.specs.Osc.{saw_of}
use Rattle.osc.specs.Phase.{wrapped}
use Rattle.brass_opening.specs.Opening.{opening_at}
use Rattle.voice_brass.specs.Brass.{c0·996, c1·004, brass_at, brass_start, brass_frames}
use Rattle.voice_brass.specs.Block.{brass_by}
use Rattle.voice_brass.specs.declared.BrassState.{BrassState}
use Rattle.osc.specs.declared.Out.{Out}

module _ (a fi srf : Float) where
  pub brass_frame :
      (s : BrassState) {f lowSaw highSaw low high : Float} →
      f ≡ max_of fi c0 →
      lowSaw ≡ saw_of s.low (f ⊗ c0·996 ⊘ srf) →
      highSaw ≡ saw_of s.high (f ⊗ c1·004 ⊘ srf) →
      low ≡ wrapped (s.low ⊕ f ⊗ c0·996 ⊘ srf) →
      high ≡ wrapped (s.high ⊕ f ⊗ c1·004 ⊘ srf) →
      let lp = s.lp ⊕ a ⊗ ((c0 ⊕ lowSaw ⊕ highSaw) ⊗ c0·5 ⊖ s.lp) in
      ◌≡◌ {A = (Out BrassState)} (record { sample = lp; state = record { low = low; high = high; lp = lp } }) (brass_by a fi srf s)
  unfolding brass_by
  brass_frame s b c d e g = rw (g, e, d, c, b)

pub brass_is : (fi gain srf : Float) (i : ℕ) (s : BrassState) → brass_by (opening_at gain srf i) fi srf s ≡ brass_at fi gain srf i s
unfolding brass_by opening_at brass_at
brass_is fi gain srf i s = refl

-- the samples by the openings are the definition's
pub by_openings : (f : ℕ → Float) (gain srf : Float) (n : ℕ)
    → samples (λ i. brass_by (opening_at gain srf i) (f i) srf) (λ r. r.sample) (λ r. r.state) brass_start n ≡ brass_frames f gain srf n
unfolding brass_frames
by_openings f gain srf n = λ j. samples (λ i s. brass_is (f i) gain srf i s j) (λ r. r.sample) (λ r. r.state) brass_start n
