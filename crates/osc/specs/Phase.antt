-- Steps that most voices of render/seq.rs write: a phase wrapped, its increment, and the time of a frame.
use Rattle.std.specs.Prelude.{ℕ, Float}
use Rattle.ieee.specs.Binary32.{◌⊖◌, ◌⊘◌}
use Rattle.ieee.specs.Numbers.{c0, f32}
use Rattle.ieee.specs.Order.{max_of}
use Rattle.ieee.specs.Whole.{floor_of}

-- phase -= phase.floor()
abbrev pub wrapped : Float → Float
wrapped phase = phase ⊖ floor_of phase

-- fi.max(0.0) / srf: "Pitch below 0 counts as 0 where the Rust writes max(0)"
abbrev pub increment : Float → Float → Float
increment pitch srf = max_of pitch c0 ⊘ srf

-- i as f32 / srf
abbrev pub seconds : Float → ℕ → Float
seconds srf i = f32 i ⊘ srf
