-- The bell by blocks: the state before frame k of a block, the arguments of its sines, and its sample from the block's sines and levels.
use Rattle.std.specs.Prelude.{ℕ, ◌+◌, ◌*◌, List, [], ◌∷◌, get_or, Float}
use Rattle.std.specs.Float.{nan}
use Rattle.laws.specs.Run.{iterate}
use Rattle.ieee.specs.Numbers.{c0, c0·2, c0·3, c0·4, c0·6, c1}
use Rattle.ieee.specs.Binary32.{◌⊕◌, ◌⊗◌}
use Rattle.dsp.specs.Kernels.{TAU}
use Rattle.osc.specs.Phase.{increment}
use Rattle.voice_bell.specs.Bell.{bell_norm, bell_next}
use Rattle.voice_bell.specs.declared.BellState.{BellState}

-- `f` is the pitch by frame, `from` the block's first frame, `start` the state before it
abbrev pub bell_reached : (ℕ → Float) → Float → ℕ → BellState → ℕ → BellState
bell_reached f srf from start k = iterate (λ k s. bell_next s (increment (f (from + k)) srf)) start k

unfoldable pub bell_turns : BellState → List Float
bell_turns s = (TAU ⊗ s.ph0) ∷ (TAU ⊗ s.ph1) ∷ (TAU ⊗ s.ph2) ∷ (TAU ⊗ s.ph3) ∷ (TAU ⊗ s.ph4) ∷ (TAU ⊗ s.twin) ∷ []

-- s0 to s5 are the sines, e0 to e4 the levels; the twin's is the first partial's
unfoldable pub bell_mix : Float → Float → Float → Float → Float → Float → Float → Float → Float → Float → Float → Float
bell_mix s0 s1 s2 s3 s4 s5 e0 e1 e2 e3 e4 = (c0 ⊕ c1 ⊗ e0 ⊗ s0 ⊕ c0·6 ⊗ e1 ⊗ s1 ⊕ c0·4 ⊗ e2 ⊗ s2 ⊕ c0·3 ⊗ e3 ⊗ s3 ⊕ c0·2 ⊗ e4 ⊗ s4 ⊕ e0 ⊗ s5) ⊗ bell_norm

-- of frame k: six sines a frame are in s, the levels in e0 to e4
unfoldable pub bell_mix_at : List Float → List Float → List Float → List Float → List Float → List Float → ℕ → Float
bell_mix_at s e0 e1 e2 e3 e4 k =
    bell_mix (get_or s (k * 6) nan) (get_or s (k * 6 + 1) nan) (get_or s (k * 6 + 2) nan) (get_or s (k * 6 + 3) nan) (get_or s (k * 6 + 4) nan) (get_or s (k * 6 + 5) nan) (get_or e0 k nan)
    (get_or e1 k nan) (get_or e2 k nan) (get_or e3 k nan) (get_or e4 k nan)
