-- `organ_note` of render/seq.rs, operation by operation, with the voice's drawbars in the place of `BARS`; its sum starts at 0.0. `fi` is the pitch at frame i, `f` the pitch by
-- frame, `srf` the rate.
use Rattle.std.specs.Prelude.{ℕ, List, Float}
use Rattle.std.specs.Float.Ieee.{neg}
use Rattle.ieee.specs.Numbers.{c0, c0·2, c0·5, c1, c2}
use Rattle.laws.specs.Run.{samples}
use Rattle.ieee.specs.Binary32.{◌⊕◌, ◌⊗◌, ◌⊘◌}
use Rattle.ieee.specs.Order.{max_of}
use Rattle.dsl.specs.Drawbars.{c6}
use Rattle.dsl.specs.declared.knobs.Drawbars.{Drawbars}
use Rattle.dsp.specs.Kernels.{TAU, sin_of, exp_of}
use Rattle.osc.specs.Phase.{wrapped, seconds}
use Rattle.osc.specs.declared.Out.{Out}

-- a drawbar: g * sin(TAU * phase * k)
abbrev pub bar : Float → Float → Float → Float
bar phase k g = g ⊗ sin_of (TAU ⊗ phase ⊗ k)

-- "Each norm is worked out from the levels in bar order, the sum beginning with the first level itself; a sum of 0 gives what f32 division gives." Rust's sum starts at −0, and −0 + x
-- is x of every x.
abbrev pub organ_norm : Drawbars → Float
organ_norm b = c1 ⊘ (b.level1 ⊕ b.level2 ⊕ b.level3 ⊕ b.level4 ⊕ b.level5)

-- "The fixed extra partial at 6 is kept": 0.5 * exp(-t / 0.2) * sin(TAU * phase * 6.0)
unfoldable pub organ_at : Drawbars → Float → Float → Float → ℕ → Float → Out Float
organ_at b norm fi srf i phase =
    let t = seconds srf i in
    let bars = c0 ⊕ bar phase b.ratio1 b.level1 ⊕ bar phase b.ratio2 b.level2 ⊕ bar phase b.ratio3 b.level3 ⊕ bar phase b.ratio4 b.level4
    ⊕ bar phase b.ratio5 b.level5 in
    let s = bars ⊕ c0·5 ⊗ exp_of (neg t ⊘ c0·2) ⊗ sin_of (TAU ⊗ phase ⊗ c6) in
    record { sample = s ⊗ norm; state = wrapped (phase ⊕ max_of fi c0 ⊘ c2 ⊘ srf) }

unfoldable pub organ_frames : Drawbars → (ℕ → Float) → Float → ℕ → List Float
organ_frames b f srf n = samples (λ i. organ_at b (organ_norm b) (f i) srf i) (λ r. r.sample) (λ r. r.state) c0 n
