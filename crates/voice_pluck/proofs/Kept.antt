-- What stands past 9,600 values of a lent string stays, since no period is longer. Use for what is not free of a lent buffer. Assumes nothing.
use Rattle.std.proofs.Common.{◌≡◌, ℕ, ◌≤◌, List, drop, ap, ◌∙◌}
use lib.Ieee.{Float}
use Rattle.laws.proofs.Parts.{kept_past}
use Rattle.dsl.specs.declared.knobs.PluckKnobs.{PluckKnobs}
use Rattle.voice_pluck.specs.Pluck.{pluck_string, pluck_left}
use Rattle.voice_pluck.proofs.Rings.{pluck_string_length}

pub pluck_kept : (k : PluckKnobs) (srf : Float) (period s n : ℕ) (l left : List Float) → left ≡ pluck_left k srf period s n l → period ≤ 9600 → drop 9600 left ≡ drop 9600 l
pluck_kept k srf period s n l left is fits = ap (drop 9600) is ∙ kept_past 9600 (pluck_string k srf period s n) l period (pluck_string_length k srf period s n) fits
