-- `strings_note` of render/seq.rs, operation by operation; its sum starts at 0.0. `low`, `mid` and `high` are its three phases, `fi` is the pitch at frame i, `f` the pitch by frame, `srf` the rate.
use Rattle.std.specs.Prelude.{ℕ, List, Float}
use Rattle.std.specs.Float.{binary32}
use Rattle.std.specs.Float.Ieee.{of_bits, neg}
use Rattle.ieee.specs.Numbers.{c0, c0·12, c1, c3}
use Rattle.laws.specs.Run.{samples}
use Rattle.ieee.specs.Binary32.{◌⊕◌, ◌⊖◌, ◌⊗◌, ◌⊘◌}
use Rattle.ieee.specs.Order.{max_of}
use Rattle.dsp.specs.Kernels.{TAU, exp_of}
use Rattle.osc.specs.Osc.{saw_of}
use Rattle.osc.specs.Phase.{wrapped, seconds}
use Rattle.voice_strings.specs.declared.StringsState.{StringsState}
use Rattle.osc.specs.declared.Out.{Out}

-- 0.33
abbrev pub c0·33 : Float
c0·33 = of_bits binary32 0x3ea8f5c3

-- 0.67
abbrev pub c0·67 : Float
c0·67 = of_bits binary32 0x3f2b851f

-- 0.99539
abbrev pub c0·99539 : Float
c0·99539 = of_bits binary32 0x3f7ed1e1

-- 1.00463
abbrev pub c1·00463 : Float
c1·00463 = of_bits binary32 0x3f8097b7

-- 3000.0
abbrev pub c3000 : Float
c3000 = of_bits binary32 0x453b8000

-- 1.0 - exp(-TAU * 3_000.0 / srf)
abbrev pub strings_lowpass : Float → Float
strings_lowpass srf = c1 ⊖ exp_of (neg TAU ⊗ c3000 ⊘ srf)

unfoldable pub strings_at : Float → Float → Float → ℕ → StringsState → Out StringsState
strings_at fi srf lpA i s =
    let t = seconds srf i in
    let lowDt = max_of fi c0 ⊗ c0·99539 ⊘ srf in
    let midDt = max_of fi c0 ⊗ c1 ⊘ srf in
    let highDt = max_of fi c0 ⊗ c1·00463 ⊘ srf in
    let sum = c0 ⊕ saw_of s.low lowDt ⊕ saw_of s.mid midDt ⊕ saw_of s.high highDt in
    let lp = s.lp ⊕ lpA ⊗ (sum ⊘ c3 ⊖ s.lp) in
    let swell = c1 ⊖ exp_of (neg t ⊘ c0·12) in
    record {
      sample = lp ⊗ swell;
      state = record { low = wrapped (s.low ⊕ lowDt); mid = wrapped (s.mid ⊕ midDt); high = wrapped (s.high ⊕ highDt); lp = lp };
    }

abbrev pub strings_start : StringsState
strings_start = record { low = c0; mid = c0·33; high = c0·67; lp = c0 }

unfoldable pub strings_frames : (ℕ → Float) → Float → ℕ → List Float
strings_frames f srf n = samples (λ i. strings_at (f i) srf (strings_lowpass srf) i) (λ r. r.sample) (λ r. r.state) strings_start n
