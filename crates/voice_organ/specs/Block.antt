-- The organ by blocks: the next phase, the phase before frame k of a block, the arguments of its bars' sines and of the percussion's, and its sample from the block's sines and levels.
use Rattle.std.specs.Prelude.{ℕ, ◌+◌, ◌*◌, List, [], ◌∷◌, get_or, Float}
use Rattle.std.specs.Float.{nan}
use Rattle.laws.specs.Run.{iterate}
use Rattle.ieee.specs.Numbers.{c0, c0·5, c2}
use Rattle.ieee.specs.Binary32.{◌⊕◌, ◌⊗◌, ◌⊘◌}
use Rattle.ieee.specs.Order.{max_of}
use Rattle.dsl.specs.Drawbars.{c6}
use Rattle.dsl.specs.declared.knobs.Drawbars.{Drawbars}
use Rattle.dsp.specs.Kernels.{TAU}
use Rattle.osc.specs.Phase.{wrapped}

abbrev pub organ_next : Float → Float → Float → Float
organ_next fi srf phase = wrapped (phase ⊕ max_of fi c0 ⊘ c2 ⊘ srf)

-- `f` is the pitch by frame, `from` the block's first frame, `start` the phase before it
abbrev pub organ_reached : (ℕ → Float) → Float → ℕ → Float → ℕ → Float
organ_reached f srf from start k = iterate (λ k s. organ_next (f (from + k)) srf s) start k

unfoldable pub organ_turns : Drawbars → Float → List Float
organ_turns b phase =
    (TAU ⊗ phase ⊗ b.ratio1) ∷ (TAU ⊗ phase ⊗ b.ratio2) ∷ (TAU ⊗ phase ⊗ b.ratio3) ∷ (TAU ⊗ phase ⊗ b.ratio4) ∷ (TAU ⊗ phase ⊗ b.ratio5) ∷ []

-- the percussion's turn, as the row of that one number
unfoldable pub organ_sixth : Float → List Float
organ_sixth phase = (TAU ⊗ phase ⊗ c6) ∷ []

-- and the number itself
abbrev pub organ_sixth_turn : Float → Float
organ_sixth_turn phase = TAU ⊗ phase ⊗ c6

-- s1 to s5 are the bars' sines, p is the percussion's and e its level
unfoldable pub organ_mix : Drawbars → Float → Float → Float → Float → Float → Float → Float → Float → Float
organ_mix b norm s1 s2 s3 s4 s5 p e = (c0 ⊕ b.level1 ⊗ s1 ⊕ b.level2 ⊗ s2 ⊕ b.level3 ⊗ s3 ⊕ b.level4 ⊗ s4 ⊕ b.level5 ⊗ s5 ⊕ c0·5 ⊗ e ⊗ p) ⊗ norm

-- of frame k: five sines a frame are in s, the percussion's in p and its levels in e
unfoldable pub organ_mix_at : Drawbars → Float → List Float → List Float → List Float → ℕ → Float
organ_mix_at b norm s p e k =
    organ_mix b norm (get_or s (k * 5) nan) (get_or s (k * 5 + 1) nan) (get_or s (k * 5 + 2) nan) (get_or s (k * 5 + 3) nan) (get_or s (k * 5 + 4) nan) (get_or p k nan) (get_or e k nan)
