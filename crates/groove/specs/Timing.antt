-- Where a note starts, and how loud it is.
use Rattle.std.specs.Prelude.{ℕ, ◌%◌, cond, ◌==◌, Float}
use Rattle.std.specs.Float.Ieee.{lt, to_unsigned}
use Rattle.ieee.specs.Numbers.{c0, c0·12, c0·15, c0·5, c1, f32}
use Rattle.ieee.specs.Binary32.{◌⊕◌, ◌⊗◌, ◌⊘◌}
use Rattle.ieee.specs.Order.{max_of, clamp_of}
use Rattle.dsl.specs.declared.note.SeqNote.{SeqNote}
use Rattle.groove.specs.Number.{c60}
use Rattle.groove.specs.Humanize.{humanize_draws}
use Rattle.groove.specs.declared.timing.Groove.{Groove}

-- "Samples per step = rate × 60 / tempo / steps per beat, in f32."
unfoldable pub step_dur_of : ℕ → Float → ℕ → Float
step_dur_of rate tempo stepsPerBeat = f32 rate ⊗ c60 ⊘ tempo ⊘ f32 stepsPerBeat

-- "Odd steps are delayed by half a step × swing."
unfoldable pub swing_delay : ℕ → Float → Float → Float
swing_delay step swing dur = cond (step % 2 == 1) (swing ⊗ c0·5 ⊗ dur) c0

-- "With humanize above 0": the delay, at most 0.12 of a step either way
unfoldable pub human_delay : SeqNote → Float → Float → Float
human_delay note humanize dur = cond (lt c0 humanize) (humanize ⊗ c0·12 ⊗ dur ⊗ (humanize_draws note).timing) c0

-- and the gain, which changes by at most 0.15 of itself
abbrev pub wobbled : Float → Float → Float → Float
wobbled gain humanize draw = gain ⊗ (c1 ⊕ humanize ⊗ c0·15 ⊗ draw)

unfoldable pub human_gain : SeqNote → Float → Float
human_gain note humanize = cond (lt c0 humanize) (wobbled note.gain humanize (humanize_draws note).gain) note.gain

-- "Start is cut, not rounded." Nothing starts before frame 0. The grooved gain is clamped to 0 and 1.
unfoldable pub groove_of : SeqNote → Float → Float → Float → Groove
groove_of note swing humanize dur = record {
  start = to_unsigned 64 (max_of (f32 note.step ⊗ dur ⊕ swing_delay note.step swing dur ⊕ human_delay note humanize dur) c0);
  gain = clamp_of (human_gain note humanize) c0 c1;
}
