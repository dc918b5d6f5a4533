-- The cowbell by blocks: the arguments of a frame's sines, and its sample from the block's tangents and levels.
use Rattle.std.specs.Prelude.{ℕ, ◌+◌, ◌*◌, List, [], ◌∷◌, get_or, Float}
use Rattle.std.specs.Float.{nan}
use Rattle.ieee.specs.Numbers.{c0·5, c20}
use Rattle.ieee.specs.Binary32.{◌⊕◌, ◌⊗◌}
use Rattle.ieee.specs.Order.{max_of}
use Rattle.dsp.specs.Kernels.{TAU}
use Rattle.osc.specs.Phase.{seconds}
use Rattle.voice_cowbell.specs.Cowbell.{c1·565}

unfoldable pub cowbell_turns : Float → Float → ℕ → List Float
cowbell_turns fi srf i = (TAU ⊗ max_of fi c20 ⊗ seconds srf i) ∷ (TAU ⊗ max_of fi c20 ⊗ c1·565 ⊗ seconds srf i) ∷ []

-- a and b are the tangents, e the level
abbrev pub cowbell_mix : Float → Float → Float → Float
cowbell_mix a b e = c0·5 ⊗ (a ⊕ b) ⊗ e

-- of frame k: two tangents a frame are in s, the levels in e
unfoldable pub cowbell_mix_at : List Float → List Float → ℕ → Float
cowbell_mix_at s e k = cowbell_mix (get_or s (k * 2) nan) (get_or s (k * 2 + 1) nan) (get_or e k nan)
