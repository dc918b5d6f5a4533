-- `epiano_note` of render/seq.rs, operation by operation. `fi` is the pitch at frame i, `f` the pitch by frame, `gain` the note's own, `srf` the rate.
use Rattle.std.specs.Prelude.{ℕ, List, Float}
use Rattle.std.specs.Float.{binary32}
use Rattle.std.specs.Float.Ieee.{of_bits, neg}
use Rattle.ieee.specs.Numbers.{c0, c0·25, c0·3, c0·5, c0·8, c1, c4, c20}
use Rattle.laws.specs.Run.{samples}
use Rattle.ieee.specs.Binary32.{◌⊕◌, ◌⊗◌, ◌⊘◌}
use Rattle.ieee.specs.Order.{max_of, clamp_of}
use Rattle.dsp.specs.Kernels.{TAU, sin_of, exp_of}
use Rattle.osc.specs.Phase.{wrapped, increment, seconds}
use Rattle.voice_epiano.specs.declared.EpianoState.{EpianoState}
use Rattle.osc.specs.declared.Out.{Out}

-- 0.035
abbrev pub c0·035 : Float
c0·035 = of_bits binary32 0x3d0f5c29

-- 0.75
abbrev pub c0·75 : Float
c0·75 = of_bits binary32 0x3f400000

-- 1.4
abbrev pub c1·4 : Float
c1·4 = of_bits binary32 0x3fb33333

-- 5.0
abbrev pub c5 : Float
c5 = of_bits binary32 0x40a00000

-- 14.0
abbrev pub c14 : Float
c14 = of_bits binary32 0x41600000

-- 250.0
abbrev pub c250 : Float
c250 = of_bits binary32 0x437a0000

-- sin(TAU * carrier + index * sin(TAU * modulator))
unfoldable pub bent_of : Float → Float → Float → Float
bent_of carrier index modulator = sin_of (TAU ⊗ carrier ⊕ index ⊗ sin_of (TAU ⊗ modulator))

-- (5.0 / (1.0 + f[0].max(20.0) / 250.0)).clamp(0.3, 4.0)
unfoldable pub epiano_decay : Float → Float
epiano_decay first = clamp_of (c5 ⊘ (c1 ⊕ max_of first c20 ⊘ c250)) c0·3 c4

unfoldable pub epiano_at : Float → Float → Float → Float → ℕ → EpianoState → Out EpianoState
epiano_at fi gain srf decay i s =
    let dt = increment fi srf in
    let t = seconds srf i in
    let bodyIdx = (c0·5 ⊕ c1 ⊗ gain) ⊗ exp_of (neg t ⊘ c0·5) in
    let tineIdx = (c0·8 ⊕ c1·4 ⊗ gain) ⊗ exp_of (neg t ⊘ c0·035) in
    let body = bent_of s.cph bodyIdx s.mph in
    let tine = bent_of s.cph tineIdx s.tph in
    record {
      sample = (c0·75 ⊗ body ⊕ c0·25 ⊗ tine) ⊗ exp_of (neg t ⊘ decay);
      state = record { cph = wrapped (s.cph ⊕ dt); mph = wrapped (s.mph ⊕ dt); tph = wrapped (s.tph ⊕ dt ⊗ c14) };
    }

abbrev pub epiano_start : EpianoState
epiano_start = record { cph = c0; mph = c0; tph = c0 }

-- the frames by the time constant
abbrev pub epiano_sound : (ℕ → Float) → Float → Float → Float → ℕ → List Float
epiano_sound f gain srf decay n = samples (λ i. epiano_at (f i) gain srf decay i) (λ r. r.sample) (λ r. r.state) epiano_start n

-- with n = 0 there are no frames, whatever `f 0` is
unfoldable pub epiano_frames : (ℕ → Float) → Float → Float → ℕ → List Float
epiano_frames f gain srf n = epiano_sound f gain srf (epiano_decay (f 0)) n
