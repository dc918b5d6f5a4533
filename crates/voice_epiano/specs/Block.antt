-- The electric piano by blocks: the state after a frame, the state before frame k of a block, the arguments of its inner sines, those of its outer ones from the block's inner sines and exponentials,
-- and its sample from the block's outer sines.
use Rattle.std.specs.Prelude.{ℕ, ◌+◌, ◌*◌, List, [], ◌∷◌, get_or, Float}
use Rattle.std.specs.Float.{nan}
use Rattle.laws.specs.Run.{iterate}
use Rattle.ieee.specs.Numbers.{c0·25, c0·5, c0·8, c1}
use Rattle.ieee.specs.Binary32.{◌⊕◌, ◌⊗◌}
use Rattle.dsp.specs.Kernels.{TAU}
use Rattle.osc.specs.Phase.{wrapped, increment}
use Rattle.voice_epiano.specs.Epiano.{c0·75, c1·4, c14}
use Rattle.voice_epiano.specs.declared.EpianoState.{EpianoState}

unfoldable pub epiano_next : EpianoState → Float → EpianoState
epiano_next s dt = record { cph = wrapped (s.cph ⊕ dt); mph = wrapped (s.mph ⊕ dt); tph = wrapped (s.tph ⊕ dt ⊗ c14) }

-- `f` is the pitch by frame, `from` the block's first frame, `start` the state before it
abbrev pub epiano_reached : (ℕ → Float) → Float → ℕ → EpianoState → ℕ → EpianoState
epiano_reached f srf from start k = iterate (λ k s. epiano_next s (increment (f (from + k)) srf)) start k

-- of the modulators of the body and of the tine
unfoldable pub inner_turns : EpianoState → List Float
inner_turns s = (TAU ⊗ s.mph) ∷ (TAU ⊗ s.tph) ∷ []

-- of the carrier, as a row of one
unfoldable pub carrier_turn : EpianoState → List Float
carrier_turn s = (TAU ⊗ s.cph) ∷ []

-- the number of that row
abbrev pub carrier_turn_of : EpianoState → Float
carrier_turn_of s = TAU ⊗ s.cph

-- by the carrier's turn c, the exponential and the inner sine m
abbrev pub body_turn : Float → Float → Float → Float → Float
body_turn gain c soft m = c ⊕ (c0·5 ⊕ c1 ⊗ gain) ⊗ soft ⊗ m

abbrev pub tine_turn : Float → Float → Float → Float → Float
tine_turn gain c ping m = c ⊕ (c0·8 ⊕ c1·4 ⊗ gain) ⊗ ping ⊗ m

-- the row of both, by numbers: m is the inner sine of the body, t that of the tine
unfoldable pub outer_turns : Float → Float → Float → Float → Float → Float → List Float
outer_turns gain c soft ping m t = body_turn gain c soft m ∷ tine_turn gain c ping t ∷ []

unfoldable pub epiano_mix : Float → Float → Float → Float
epiano_mix body tine fade = (c0·75 ⊗ body ⊕ c0·25 ⊗ tine) ⊗ fade

-- of frame k: the carrier's turns are in c, the exponentials in soft and ping, two inner sines a frame in s
unfoldable pub body_turn_at : Float → List Float → List Float → List Float → ℕ → Float
body_turn_at gain c soft s k = body_turn gain (get_or c k nan) (get_or soft k nan) (get_or s (k * 2) nan)

unfoldable pub tine_turn_at : Float → List Float → List Float → List Float → ℕ → Float
tine_turn_at gain c ping s k = tine_turn gain (get_or c k nan) (get_or ping k nan) (get_or s (k * 2 + 1) nan)

unfoldable pub outer_turns_at : Float → List Float → List Float → List Float → List Float → ℕ → List Float
outer_turns_at gain c soft ping s k = outer_turns gain (get_or c k nan) (get_or soft k nan) (get_or ping k nan) (get_or s (k * 2) nan) (get_or s (k * 2 + 1) nan)

-- two outer sines a frame are in s
unfoldable pub epiano_mix_at : List Float → List Float → ℕ → Float
epiano_mix_at s fade k = epiano_mix (get_or s (k * 2) nan) (get_or s (k * 2 + 1) nan) (get_or fade k nan)
