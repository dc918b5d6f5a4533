-- The guitar of `pluck_note`: the tone knob, and a body of three fixed resonances, each a filter of two poles.
use Rattle.std.specs.Prelude.{Float}
use Rattle.std.specs.Float.Ieee.{neg}
use Rattle.ieee.specs.Numbers.{c0, c0·25, c0·5, c0·8, c1, c2}
use Rattle.ieee.specs.Binary32.{◌⊕◌, ◌⊗◌, ◌⊘◌}
use Rattle.ieee.specs.Order.{max_of}
use Rattle.dsp.specs.Kernels.{TAU, sin_of, cos_of, exp_of}
use Rattle.voice_pluck.specs.Constants.{c100, c215, c400, neg_ln1000}
use Rattle.voice_pluck.specs.declared.guitar.Mode.{Mode}
use Rattle.voice_pluck.specs.declared.guitar.Timbre.{Timbre}
use Rattle.voice_pluck.specs.declared.guitar.Echo.{Echo}
use Rattle.voice_pluck.specs.declared.guitar.Echoes.{Echoes}

-- a resonance at fr hertz, of strength g
unfoldable pub mode_of : Float → Float → Float → Float → Mode
mode_of srf radius fr g =
    let w0 = TAU ⊗ fr ⊘ srf in
    record { a1 = c2 ⊗ radius ⊗ cos_of w0; b0 = g ⊗ sin_of w0 }

-- Helmholtz air, top plate, back
unfoldable pub timbre_of : Float → Float → Timbre
timbre_of tone srf =
    let radius = exp_of (neg_ln1000 ⊘ (c0·25 ⊗ srf)) in
    record {
      bright = max_of tone c0;
      damp = max_of (neg tone) c0;
      a2 = neg radius ⊗ radius;
      air = mode_of srf radius c100 c1;
      top = mode_of srf radius c215 c0·8;
      back = mode_of srf radius c400 c0·5;
    }

-- a resonance one frame on, driven by y
unfoldable pub rung : Float → Mode → Float → Echo → Echo
rung a2 m y e = record { y1 = m.b0 ⊗ y ⊕ m.a1 ⊗ e.y1 ⊕ a2 ⊗ e.y2; y2 = e.y1 }

unfoldable pub all_rung : Timbre → Float → Echoes → Echoes
all_rung g y e =
    record {
      air = rung g.a2 g.air y e.air;
      top = rung g.a2 g.top y e.top;
      back = rung g.a2 g.back y e.back;
    }
