-- The arguments of the sines of a partial's two strings.
use Rattle.std.specs.Prelude.{List, [], ◌∷◌, Float}
use Rattle.std.specs.Float.{nan}
use Rattle.ieee.specs.Binary32.{◌⊗◌}
use Rattle.dsp.specs.Kernels.{TAU}
use Rattle.voice_piano.specs.declared.hammer.Partial.{Partial}

unfoldable pub turns_of : Partial → List Float
turns_of p = (TAU ⊗ p.phase0) ∷ (TAU ⊗ p.phase1) ∷ []

-- what a place past the end of an array is read as
abbrev pub no_partial : Partial
no_partial = record { step = nan; amp = nan; env = nan; dmul = nan; phase0 = nan; phase1 = nan }
