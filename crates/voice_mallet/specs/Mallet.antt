-- `mallet_note` of render/seq.rs, operation by operation. `fi` is the pitch at frame i, `f` the pitch by frame, `gain` the note's own, `srf` the rate.
use Rattle.std.specs.Prelude.{ℕ, List, Float}
use Rattle.std.specs.Float.{binary32}
use Rattle.std.specs.Float.Ieee.{of_bits, neg}
use Rattle.ieee.specs.Numbers.{c0, c0·01, c0·03, c0·25, c0·4, c0·5, c0·6}
use Rattle.laws.specs.Run.{samples}
use Rattle.ieee.specs.Binary32.{◌⊕◌, ◌⊗◌, ◌⊘◌}
use Rattle.dsp.specs.Kernels.{TAU, sin_of, exp_of}
use Rattle.osc.specs.Phase.{wrapped, increment, seconds}
use Rattle.voice_mallet.specs.declared.MalletState.{MalletState}
use Rattle.osc.specs.declared.Out.{Out}

-- 0.7
abbrev pub c0·7 : Float
c0·7 = of_bits binary32 0x3f333333

-- 3.9
abbrev pub c3·9 : Float
c3·9 = of_bits binary32 0x4079999a

-- 9.2
abbrev pub c9·2 : Float
c9·2 = of_bits binary32 0x41133333

unfoldable pub mallet_at : Float → Float → Float → ℕ → MalletState → Out MalletState
mallet_at fi gain srf i s =
    let bright = c0·4 ⊕ c0·6 ⊗ gain in
    let dt = increment fi srf in
    let t = seconds srf i in
    let sum = sin_of (TAU ⊗ s.ph0) ⊕ bright ⊗ c0·5 ⊗ exp_of (neg t ⊘ c0·03) ⊗ sin_of (TAU ⊗ s.ph1) ⊕ bright ⊗ c0·25 ⊗ exp_of (neg t ⊘ c0·01) ⊗ sin_of (TAU ⊗ s.ph2) in
    record {
      sample = c0·7 ⊗ sum;
      state = record { ph0 = wrapped (s.ph0 ⊕ dt); ph1 = wrapped (s.ph1 ⊕ dt ⊗ c3·9); ph2 = wrapped (s.ph2 ⊕ dt ⊗ c9·2) };
    }

abbrev pub mallet_start : MalletState
mallet_start = record { ph0 = c0; ph1 = c0; ph2 = c0 }

unfoldable pub mallet_frames : (ℕ → Float) → Float → Float → ℕ → List Float
mallet_frames f gain srf n = samples (λ i. mallet_at (f i) gain srf i) (λ r. r.sample) (λ r. r.state) mallet_start n
