-- render/osc.rs: `poly_blep` and `osc`, operation by operation; and the sawtooth that four voices write.
use Rattle.std.specs.Prelude.{cond, Float}
use Rattle.std.specs.Float.Ieee.{neg, lt, le}
use Rattle.ieee.specs.Numbers.{c0, c0·5, c1, c2, c3, c4}
use Rattle.ieee.specs.Binary32.{◌⊕◌, ◌⊖◌, ◌⊗◌, ◌⊘◌}
use Rattle.dsp.specs.Kernels.{TAU, sin_of}
use Rattle.osc.specs.declared.Shape.{Shape}
use Rattle.osc.specs.declared.Shape.TheVariants.{Sine, Square, Triangle, Saw}

-- "`poly_blep` with dt ≤ 0 gives 0"
unfoldable pub poly_blep : Float → Float → Float
poly_blep t dt =
    cond (le dt c0) c0
    (cond (lt t dt) (let u = t ⊘ dt in u ⊕ u ⊖ u ⊗ u ⊖ c1)
    (cond (lt (c1 ⊖ dt) t) (let u = (t ⊖ c1) ⊘ dt in u ⊗ u ⊕ u ⊕ u ⊕ c1)
    c0))

unfoldable pub osc_of : Shape → Float → Float
osc_of Sine phase = sin_of (TAU ⊗ phase)
osc_of Square phase = cond (lt phase c0·5) c1 (neg c1)
osc_of Triangle phase = cond (lt phase c0·5) (c4 ⊗ phase ⊖ c1) (c3 ⊖ c4 ⊗ phase)
osc_of Saw phase = c2 ⊗ phase ⊖ c1

-- (2.0 * phase - 1.0) - poly_blep(phase, dt)
abbrev pub saw_of : Float → Float → Float
saw_of phase dt = c2 ⊗ phase ⊖ c1 ⊖ poly_blep phase dt
