-- `brass_note` of render/seq.rs, operation by operation; its sum starts at 0.0. `low` and `high` are its two phases, `fi`
-- is the pitch at frame i, `f` the pitch by frame, `gain` the note's own, `srf` the rate.
use Rattle.std.specs.Prelude.{ℕ, List, Float}
use Rattle.std.specs.Float.{binary32}
use Rattle.std.specs.Float.Ieee.{of_bits, neg}
use Rattle.ieee.specs.Numbers.{c0, c0·45, c0·5, c1, c1200}
use Rattle.laws.specs.Run.{samples}
use Rattle.ieee.specs.Binary32.{◌⊕◌, ◌⊖◌, ◌⊗◌, ◌⊘◌}
use Rattle.ieee.specs.Order.{max_of, min_of}
use Rattle.dsp.specs.Kernels.{TAU, exp_of}
use Rattle.osc.specs.Osc.{saw_of}
use Rattle.osc.specs.Phase.{wrapped, seconds}
use Rattle.brass_opening.specs.Opening.{c0·07, c800, c1400}
use Rattle.voice_brass.specs.declared.BrassState.{BrassState}
use Rattle.osc.specs.declared.Out.{Out}

-- 0.996
abbrev pub c0·996 : Float
c0·996 = of_bits binary32 0x3f7ef9db

-- 1.004
abbrev pub c1·004 : Float
c1·004 = of_bits binary32 0x3f808312

unfoldable pub brass_at : Float → Float → Float → ℕ → BrassState → Out BrassState
brass_at fi gain srf i s =
    let t = seconds srf i in
    let lowDt = max_of fi c0 ⊗ c0·996 ⊘ srf in
    let highDt = max_of fi c0 ⊗ c1·004 ⊘ srf in
    let sum = c0 ⊕ saw_of s.low lowDt ⊕ saw_of s.high highDt in
    let cutoff = c800 ⊕ (c1400 ⊕ c1200 ⊗ gain) ⊗ (c1 ⊖ exp_of (neg t ⊘ c0·07)) in
    let a = c1 ⊖ exp_of (neg TAU ⊗ min_of cutoff (c0·45 ⊗ srf) ⊘ srf) in
    let lp = s.lp ⊕ a ⊗ (sum ⊗ c0·5 ⊖ s.lp) in
    record { sample = lp; state = record { low = wrapped (s.low ⊕ lowDt); high = wrapped (s.high ⊕ highDt); lp = lp } }

abbrev pub brass_start : BrassState
brass_start = record { low = c0; high = c0·5; lp = c0 }

unfoldable pub brass_frames : (ℕ → Float) → Float → Float → ℕ → List Float
brass_frames f gain srf n = samples (λ i. brass_at (f i) gain srf i) (λ r. r.sample) (λ r. r.state) brass_start n
