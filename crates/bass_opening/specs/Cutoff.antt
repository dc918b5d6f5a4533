-- The cutoff of `bass_note` of render/seq.rs, and how far it opens the filter at a frame: the part that reads nothing but the time, the knobs, the gain and the rate, cut where
-- its exponentials are.
use Rattle.std.specs.Prelude.{ℕ, Float}
use Rattle.std.specs.Float.Ieee.{neg}
use Rattle.ieee.specs.Numbers.{c0·001, c0·008}
use Rattle.ieee.specs.Binary32.{◌⊕◌, ◌⊗◌, ◌⊘◌}
use Rattle.ieee.specs.Order.{max_of}
use Rattle.dsp.specs.Kernels.{TAU}
use Rattle.dsl.specs.declared.knobs.BassKnobs.{BassKnobs}
use Rattle.frame_block.specs.Decay.{decay_at}
use Rattle.opening_block.specs.Opened.{opened_by}

-- in hertz, by the exponentials of the envelope and of the click
abbrev pub bass_cutoff_by : BassKnobs → Float → Float → Float → Float
bass_cutoff_by bass gain env click = bass.bass_cutoff ⊕ (bass.bass_env ⊕ bass.bass_env_vel ⊗ gain) ⊗ env ⊕ bass.bass_click ⊗ click

-- the argument of the filter's exponential
abbrev pub bass_argument_by : BassKnobs → Float → Float → Float → Float → Float
bass_argument_by bass gain srf env click = neg TAU ⊗ bass_cutoff_by bass gain env click ⊘ srf

unfoldable pub bass_opening_at : BassKnobs → Float → Float → ℕ → Float
bass_opening_at bass gain srf i = opened_by (bass_argument_by bass gain srf (decay_at srf (max_of bass.bass_decay c0·001) i) (decay_at srf c0·008 i))
