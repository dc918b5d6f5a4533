-- A frame of the strings, its swell by the exponential e.
use Rattle.std.specs.Prelude.{Float}
use Rattle.ieee.specs.Numbers.{c0, c1, c3}
use Rattle.ieee.specs.Binary32.{◌⊕◌, ◌⊖◌, ◌⊗◌, ◌⊘◌}
use Rattle.ieee.specs.Order.{max_of}
use Rattle.osc.specs.Osc.{saw_of}
use Rattle.osc.specs.Phase.{wrapped}
use Rattle.voice_strings.specs.declared.StringsState.{StringsState}
use Rattle.osc.specs.declared.Out.{Out}
use Rattle.voice_strings.specs.Strings.{c0·99539, c1·00463}

unfoldable pub strings_by : Float → Float → Float → Float → StringsState → Out StringsState
strings_by e fi srf lpA s =
    let lowDt = max_of fi c0 ⊗ c0·99539 ⊘ srf in
    let midDt = max_of fi c0 ⊗ c1 ⊘ srf in
    let highDt = max_of fi c0 ⊗ c1·00463 ⊘ srf in
    let sum = c0 ⊕ saw_of s.low lowDt ⊕ saw_of s.mid midDt ⊕ saw_of s.high highDt in
    let lp = s.lp ⊕ lpA ⊗ (sum ⊘ c3 ⊖ s.lp) in
    record {
      sample = lp ⊗ (c1 ⊖ e);
      state = record { low = wrapped (s.low ⊕ lowDt); mid = wrapped (s.mid ⊕ midDt); high = wrapped (s.high ⊕ highDt); lp = lp };
    }
