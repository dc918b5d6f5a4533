-- The strings of `piano_note`: each partial has two, whose pitches are a little apart.
use Rattle.std.specs.Prelude.{Float}
use Rattle.ieee.specs.Numbers.{c1}
use Rattle.ieee.specs.Binary32.{◌⊕◌, ◌⊖◌, ◌⊗◌, ◌⊘◌}
use Rattle.dsp.specs.Kernels.{TAU, sin_of}
use Rattle.osc.specs.Phase.{wrapped}
use Rattle.voice_piano.specs.Constants.{c1·0006}
use Rattle.voice_piano.specs.declared.hammer.Partial.{Partial}
use Rattle.voice_piano.specs.declared.wires.Pair.{Pair}

-- `string_det` of the source
unfoldable pub pair_of : Float → Pair
pair_of spread =
    let detune = c1 ⊕ (c1·0006 ⊖ c1) ⊗ spread in
    record { first = c1 ⊘ detune; second = detune }

-- a sum with a partial's two strings added
unfoldable pub added : Float → Partial → Float
added s p =
    let a = p.amp ⊗ p.env in
    s ⊕ a ⊗ sin_of (TAU ⊗ p.phase0) ⊕ a ⊗ sin_of (TAU ⊗ p.phase1)

-- the partial before the next frame: its strings turn, and it decays
unfoldable pub moved : Float → Pair → Partial → Partial
moved dt det p =
    let inc = dt ⊗ p.step in
    record {
      step = p.step;
      amp = p.amp;
      env = p.env ⊗ p.dmul;
      dmul = p.dmul;
      phase0 = wrapped (p.phase0 ⊕ inc ⊗ det.first);
      phase1 = wrapped (p.phase1 ⊕ inc ⊗ det.second);
    }

abbrev pub amp_added : Float → Partial → Float
amp_added s p = s ⊕ p.amp
