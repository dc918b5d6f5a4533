-- `bell_note` of render/seq.rs, operation by operation; its sum starts at 0.0. `fi` is the pitch at frame i, `f` the pitch by frame, `srf` the rate.
use Rattle.std.specs.Prelude.{ℕ, List, Float}
use Rattle.std.specs.Float.{binary32}
use Rattle.std.specs.Float.Ieee.{of_bits, neg}
use Rattle.ieee.specs.Numbers.{c0, c0·001, c0·2, c0·25, c0·3, c0·4, c0·6, c0·8, c1, c3}
use Rattle.laws.specs.Run.{samples}
use Rattle.ieee.specs.Binary32.{◌⊕◌, ◌⊗◌, ◌⊘◌}
use Rattle.ieee.specs.Order.{max_of}
use Rattle.dsp.specs.Kernels.{TAU, sin_of, exp_of}
use Rattle.osc.specs.Phase.{wrapped, increment, seconds}
use Rattle.voice_bell.specs.declared.BellState.{BellState}
use Rattle.osc.specs.declared.Out.{Out}

-- 1.001
abbrev pub c1·001 : Float
c1·001 = of_bits binary32 0x3f8020c5

-- 1.5
abbrev pub c1·5 : Float
c1·5 = of_bits binary32 0x3fc00000

-- 2.02
abbrev pub c2·02 : Float
c2·02 = of_bits binary32 0x400147ae

-- 2.74
abbrev pub c2·74 : Float
c2·74 = of_bits binary32 0x402f5c29

-- 4.07
abbrev pub c4·07 : Float
c4·07 = of_bits binary32 0x40823d71

-- 5.43
abbrev pub c5·43 : Float
c5·43 = of_bits binary32 0x40adc28f

-- g * exp(-t / decay.max(1e-3)) * sin(TAU * phase)
unfoldable pub bell_partial : Float → Float → Float → Float → Float
bell_partial phase t g decay = g ⊗ exp_of (neg t ⊘ max_of decay c0·001) ⊗ sin_of (TAU ⊗ phase)

-- the partials by gain and decay, and the twin
unfoldable pub bell_sum : BellState → Float → Float
bell_sum s t =
    c0 ⊕ bell_partial s.ph0 t c1 c3 ⊕ bell_partial s.ph1 t c0·6 c1·5 ⊕ bell_partial s.ph2 t c0·4 c0·8 ⊕ bell_partial s.ph3 t c0·3 c0·4 ⊕ bell_partial s.ph4 t c0·2 c0·25
    ⊕ exp_of (neg t ⊘ c3) ⊗ sin_of (TAU ⊗ s.twin)

-- each phase moves by its ratio
unfoldable pub bell_next : BellState → Float → BellState
bell_next s dt = record {
  ph0 = wrapped (s.ph0 ⊕ dt ⊗ c1);
  ph1 = wrapped (s.ph1 ⊕ dt ⊗ c2·02);
  ph2 = wrapped (s.ph2 ⊕ dt ⊗ c2·74);
  ph3 = wrapped (s.ph3 ⊕ dt ⊗ c4·07);
  ph4 = wrapped (s.ph4 ⊕ dt ⊗ c5·43);
  twin = wrapped (s.twin ⊕ dt ⊗ c1·001);
}

-- 1.0 / (1.0 + the sum of the gains). Rust's sum starts at −0, and −0 + 1 is 1.
abbrev pub bell_norm : Float
bell_norm = c1 ⊘ (c1 ⊕ (c1 ⊕ c0·6 ⊕ c0·4 ⊕ c0·3 ⊕ c0·2))

unfoldable pub bell_at : Float → Float → ℕ → BellState → Out BellState
bell_at fi srf i s = record { sample = bell_sum s (seconds srf i) ⊗ bell_norm; state = bell_next s (increment fi srf) }

abbrev pub bell_start : BellState
bell_start = record { ph0 = c0; ph1 = c0; ph2 = c0; ph3 = c0; ph4 = c0; twin = c0 }

unfoldable pub bell_frames : (ℕ → Float) → Float → ℕ → List Float
bell_frames f srf n = samples (λ i. bell_at (f i) srf i) (λ r. r.sample) (λ r. r.state) bell_start n
