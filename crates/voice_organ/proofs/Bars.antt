-- THE THEOREM: with `BARS` every organ note is the original's. `original_at` is a frame of `organ_note` of render/seq.rs as it stands there, with its own five pairs. Assumes nothing.
use Prim.Native.Nat.{ℕ}
use mathlib.Core.Path.{◌≡◌, refl}
use lib.Ieee.{Float, neg}
use Rattle.ieee.specs.Numbers.{c0, c0·2, c0·3, c0·45, c0·5, c1, c2, c4}
use Rattle.laws.specs.Run.{samples}
use Rattle.ieee.specs.Binary32.{◌⊕◌, ◌⊗◌, ◌⊘◌}
use Rattle.ieee.specs.Order.{max_of}
use Rattle.dsl.specs.Drawbars.{c0·22, c6, c8, BARS}
use Rattle.dsp.specs.Kernels.{TAU, sin_of, exp_of}
use Rattle.osc.specs.Phase.{wrapped, seconds}
use Rattle.voice_organ.specs.Organ.{bar, organ_at, organ_frames}
use Rattle.osc.specs.declared.Out.{Out}

abbrev pub original_norm : Float
original_norm = c1 ⊘ (c0·45 ⊕ c1 ⊕ c0·45 ⊕ c0·3 ⊕ c0·22)

abbrev pub original_at : Float → Float → ℕ → Float → Out Float
original_at fi srf i phase =
    let t = seconds srf i in
    let bars = c0 ⊕ bar phase c1 c0·45 ⊕ bar phase c2 c1 ⊕ bar phase c4 c0·45 ⊕ bar phase c6 c0·3 ⊕ bar phase c8 c0·22 in
    let s = bars ⊕ c0·5 ⊗ exp_of (neg t ⊘ c0·2) ⊗ sin_of (TAU ⊗ phase ⊗ c6) in
    record { sample = s ⊗ original_norm; state = wrapped (phase ⊕ max_of fi c0 ⊘ c2 ⊘ srf) }

pub bars_original : (f : ℕ → Float) (srf : Float) (n : ℕ) → organ_frames BARS f srf n ≡ samples (λ i. original_at (f i) srf i) (λ r. r.sample) (λ r. r.state) c0 n
unfolding organ_frames organ_at
bars_original f srf n = refl
