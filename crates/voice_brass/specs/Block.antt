-- A frame of brass, its filter opened by a.
use Rattle.std.specs.Prelude.{Float}
use Rattle.ieee.specs.Numbers.{c0, c0·5}
use Rattle.ieee.specs.Binary32.{◌⊕◌, ◌⊖◌, ◌⊗◌, ◌⊘◌}
use Rattle.ieee.specs.Order.{max_of}
use Rattle.osc.specs.Osc.{saw_of}
use Rattle.osc.specs.Phase.{wrapped}
use Rattle.voice_brass.specs.declared.BrassState.{BrassState}
use Rattle.osc.specs.declared.Out.{Out}
use Rattle.voice_brass.specs.Brass.{c0·996, c1·004}

unfoldable pub brass_by : Float → Float → Float → BrassState → Out BrassState
brass_by a fi srf s =
    let lowDt = max_of fi c0 ⊗ c0·996 ⊘ srf in
    let highDt = max_of fi c0 ⊗ c1·004 ⊘ srf in
    let sum = c0 ⊕ saw_of s.low lowDt ⊕ saw_of s.high highDt in
    let lp = s.lp ⊕ a ⊗ (sum ⊗ c0·5 ⊖ s.lp) in
    record { sample = lp; state = record { low = wrapped (s.low ⊕ lowDt); high = wrapped (s.high ⊕ highDt); lp = lp } }
