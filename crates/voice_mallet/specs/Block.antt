-- The mallet by blocks: the state before frame k of a block, the arguments of its sines, and its sample from the block's sines and levels.
use Rattle.std.specs.Prelude.{ℕ, ◌+◌, ◌*◌, List, [], ◌∷◌, get_or, Float}
use Rattle.std.specs.Float.{nan}
use Rattle.laws.specs.Run.{iterate}
use Rattle.ieee.specs.Numbers.{c0·25, c0·4, c0·5, c0·6}
use Rattle.ieee.specs.Binary32.{◌⊕◌, ◌⊗◌}
use Rattle.dsp.specs.Kernels.{TAU}
use Rattle.osc.specs.Phase.{wrapped, increment}
use Rattle.voice_mallet.specs.Mallet.{c0·7, c3·9, c9·2}
use Rattle.voice_mallet.specs.declared.MalletState.{MalletState}

unfoldable pub mallet_next : MalletState → Float → MalletState
mallet_next s dt = record { ph0 = wrapped (s.ph0 ⊕ dt); ph1 = wrapped (s.ph1 ⊕ dt ⊗ c3·9); ph2 = wrapped (s.ph2 ⊕ dt ⊗ c9·2) }

-- `f` is the pitch by frame, `from` the block's first frame, `start` the state before it
abbrev pub mallet_reached : (ℕ → Float) → Float → ℕ → MalletState → ℕ → MalletState
mallet_reached f srf from start k = iterate (λ k s. mallet_next s (increment (f (from + k)) srf)) start k

unfoldable pub mallet_turns : MalletState → List Float
mallet_turns s = (TAU ⊗ s.ph0) ∷ (TAU ⊗ s.ph1) ∷ (TAU ⊗ s.ph2) ∷ []

-- s0 to s2 are the sines, e1 and e2 the levels
unfoldable pub mallet_mix : Float → Float → Float → Float → Float → Float → Float
mallet_mix gain s0 s1 s2 e1 e2 =
    let bright = c0·4 ⊕ c0·6 ⊗ gain in
    c0·7 ⊗ (s0 ⊕ bright ⊗ c0·5 ⊗ e1 ⊗ s1 ⊕ bright ⊗ c0·25 ⊗ e2 ⊗ s2)

-- of frame k: three sines a frame are in s, the levels of the strike partials in e1 and e2
unfoldable pub mallet_mix_at : Float → List Float → List Float → List Float → ℕ → Float
mallet_mix_at gain s e1 e2 k = mallet_mix gain (get_or s (k * 3) nan) (get_or s (k * 3 + 1) nan) (get_or s (k * 3 + 2) nan) (get_or e1 k nan) (get_or e2 k nan)
