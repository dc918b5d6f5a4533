-- `let midi = hz_to_midi(f[0].max(8.0)).round() as i32` of render/kit.rs: the drum's number, by the first pitch of the hit.
use Rattle.std.specs.Prelude.{ℤ, Float}
use Rattle.std.specs.Float.{binary32}
use Rattle.std.specs.Float.Ieee.{of_bits, to_signed}
use Rattle.ieee.specs.Order.{max_of}
use Rattle.ieee.specs.Whole.{round_of}
use Rattle.dsp.specs.Kernels.{hz_to_midi}
use Rattle.drum.specs.Drums.{drum_of}
use Rattle.drum.specs.declared.Drum.{Drum}

-- 8.0
abbrev pub c8 : Float
c8 = of_bits binary32 0x41000000

-- rounded half away from zero; `as i32` cuts nothing more, and is 0 at a NaN
unfoldable pub midi_of : Float → ℤ
midi_of first = to_signed 31 (round_of (hz_to_midi (max_of first c8)))

abbrev pub first_drum : Float → Drum
first_drum first = drum_of (midi_of first)
