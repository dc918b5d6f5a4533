-- `flute_note` of render/seq.rs, operation by operation. `fi` is the pitch at frame i, `f` the pitch by frame, `gain` the note's own, `srf` the rate, `rng` the generator before the first frame.
use Rattle.std.specs.Prelude.{ℕ, List, Float}
use Rattle.std.specs.Float.{binary32}
use Rattle.std.specs.Float.Ieee.{of_bits, neg}
use Rattle.ieee.specs.Numbers.{c0, c0·006, c0·03, c0·15, c0·9, c1, c1200}
use Rattle.laws.specs.Run.{samples}
use Rattle.ieee.specs.Binary32.{◌⊕◌, ◌⊖◌, ◌⊗◌, ◌⊘◌}
use Rattle.ieee.specs.Order.{max_of}
use Rattle.dsp.specs.Kernels.{TAU, sin_of, exp_of}
use Rattle.rng.specs.SplitMix64.{advance}
use Rattle.rng.specs.Draw.{bi_from}
use Rattle.osc.specs.Phase.{wrapped, seconds}
use Rattle.rng.specs.declared.Rng.{Rng}
use Rattle.voice_flute.specs.declared.FluteState.{FluteState}
use Rattle.osc.specs.declared.Out.{Out}

-- 0.02
abbrev pub c0·02 : Float
c0·02 = of_bits binary32 0x3ca3d70a

-- 5.5
abbrev pub c5·5 : Float
c5·5 = of_bits binary32 0x40b00000

-- the generator at a state
abbrev pub rng_at : ℕ → Rng
rng_at state = record { 0 = state }

-- 1.0 - exp(-TAU * 1_200.0 / srf)
abbrev pub flute_lowpass : Float → Float
flute_lowpass srf = c1 ⊖ exp_of (neg TAU ⊗ c1200 ⊘ srf)

unfoldable pub flute_at : Float → Float → Float → Float → ℕ → FluteState → Out FluteState
flute_at fi gain srf lpA i s =
    let t = seconds srf i in
    let depth = c0·006 ⊗ (c1 ⊖ exp_of (neg t ⊘ c0·15)) in
    let fmod = c1 ⊕ depth ⊗ sin_of (TAU ⊗ s.vib) in
    let vib = wrapped (s.vib ⊕ c5·5 ⊘ srf) in
    let phase = wrapped (s.phase ⊕ max_of fi c0 ⊗ fmod ⊘ srf) in
    let breath = bi_from s.rng.0 in
    let lp = s.lp ⊕ lpA ⊗ (breath ⊖ s.lp) in
    record {
      sample = c0·9 ⊗ sin_of (TAU ⊗ phase) ⊕ (c0·02 ⊕ c0·03 ⊗ gain) ⊗ lp;
      state = record { phase = phase; vib = vib; lp = lp; rng = rng_at (advance s.rng.0) };
    }

abbrev pub flute_start : Rng → FluteState
flute_start rng = record { phase = c0; vib = c0; lp = c0; rng = rng }

unfoldable pub flute_frames : (ℕ → Float) → Float → Float → Rng → ℕ → List Float
flute_frames f gain srf rng n = samples (λ i. flute_at (f i) gain srf (flute_lowpass srf) i) (λ r. r.sample) (λ r. r.state) (flute_start rng) n
