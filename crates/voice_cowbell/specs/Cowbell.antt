-- `cowbell_sample` of render/kit.rs, operation by operation, and `SeqWave::Cowbell` of `seq_note_signal`, which plays it. `fi` is the pitch at frame i, `f` the
-- pitch by frame, `srf` the rate.
use Rattle.std.specs.Prelude.{ℕ, List, Float}
use Rattle.std.specs.Float.{binary32}
use Rattle.std.specs.Float.Ieee.{of_bits, neg}
use Rattle.ieee.specs.Numbers.{c0·5, c20}
use Rattle.laws.specs.Run.{samples}
use Rattle.ieee.specs.Order.{max_of}
use Rattle.ieee.specs.Binary32.{◌⊕◌, ◌⊗◌, ◌⊘◌}
use Rattle.dsp.specs.Kernels.{TAU, sin_of, exp_of, tanh_of}
use Rattle.osc.specs.Phase.{seconds}

-- 2.5
abbrev pub c2·5 : Float
c2·5 = of_bits binary32 0x40200000

-- 1.565
abbrev pub c1·565 : Float
c1·565 = of_bits binary32 0x3fc851ec

-- 0.09
abbrev pub c0·09 : Float
c0·09 = of_bits binary32 0x3db851ec

unfoldable pub cowbell_of : Float → Float → Float
cowbell_of f t =
    let a = tanh_of (c2·5 ⊗ sin_of (TAU ⊗ f ⊗ t)) in
    let b = tanh_of (c2·5 ⊗ sin_of (TAU ⊗ f ⊗ c1·565 ⊗ t)) in
    c0·5 ⊗ (a ⊕ b) ⊗ exp_of (neg t ⊘ c0·09)

unfoldable pub cowbell_at : Float → Float → ℕ → Float
cowbell_at fi srf i = cowbell_of (max_of fi c20) (seconds srf i)

-- there is no state: it is 0 throughout
unfoldable pub cowbell_frames : (ℕ → Float) → Float → ℕ → List Float
cowbell_frames f srf n = samples (λ i (s : ℕ). cowbell_at (f i) srf i) (λ r. r) (λ r. 0) 0 n
