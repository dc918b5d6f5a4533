-- Where a note stands under a tempo map: `groove_note_mapped` of render/seq.rs, in f64, operation by operation. The f32 numbers 0.5 and 0.12, swing, humanize and the
-- timing draw are widened, which leaves their values as they are.
use Rattle.std.specs.Prelude.{ℕ, ◌+◌, ◌-◌, ◌%◌, ◌^◌, min, max, cond, List, ◌==◌, Float}
use Rattle.std.specs.Float.Ieee.{lt, to_unsigned}
use Rattle.ieee.specs.Numbers.{c0, c0·12, c0·5, c1}
use Rattle.ieee.specs.Numbers64.{d0, d60, f64}
use Rattle.ieee.specs.Binary64.{◌⊞◌, ◌⊠◌, ◌⧄◌}
use Rattle.ieee.specs.Order.{max_of, clamp_of}
use Rattle.ieee.specs.Whole.{round_of}
use Rattle.dsl.specs.declared.note.SeqNote.{SeqNote}
use Rattle.tempo.specs.Map.{seconds_at, bpm_at}
use Rattle.tempo.specs.declared.map.TempoPoint.{TempoPoint}
use Rattle.groove.specs.Humanize.{humanize_draws}
use Rattle.groove.specs.Timing.{human_gain}
use Rattle.groove.specs.declared.mapped.Mapped.{Mapped}

-- `note_end_step`: where a note stops, in steps, at least one on. The sum saturates.
unfoldable pub end_step : SeqNote → ℕ
end_step note = min (note.step + max note.len 1) (2 ^ 32 - 1)

-- a step as a beat
abbrev pub beat_of : ℕ → ℕ → Float
beat_of step stepsPerBeat = f64 step ⧄ f64 stepsPerBeat

-- "60.0 / map.bpm_at(start_beat) / spb", times the rate: the frames of a step at the tempo that is in effect
unfoldable pub step_frames_of : Float → ℕ → ℕ → Float
step_frames_of bpm stepsPerBeat rate = d60 ⧄ bpm ⧄ f64 stepsPerBeat ⊠ f64 rate

-- "Odd steps are delayed by half a step × swing."
unfoldable pub swing_delay64 : ℕ → Float → Float → Float
swing_delay64 step swing dur = cond (step % 2 == 1) (swing ⊠ c0·5 ⊠ dur) d0

-- "With humanize above 0": the delay, at most 0.12 of a step either way
unfoldable pub human_delay64 : SeqNote → Float → Float → Float
human_delay64 note humanize dur = cond (lt c0 humanize) (humanize ⊠ c0·12 ⊠ dur ⊠ (humanize_draws note).timing) d0

-- "rounded", halves away from zero, and not below 0
unfoldable pub frame_of : Float → ℕ
frame_of x = to_unsigned 64 (max_of (round_of x) d0)

module _ (note : SeqNote) (swing humanize : Float) (ps : List TempoPoint) (stepsPerBeat rate : ℕ) where
  abbrev pub mapped_start : ℕ
  mapped_start =
      let beat = beat_of note.step stepsPerBeat in
      let dur = step_frames_of (bpm_at ps beat) stepsPerBeat rate in
      frame_of (seconds_at ps beat ⊠ f64 rate ⊞ swing_delay64 note.step swing dur ⊞ human_delay64 note humanize dur)

  abbrev pub mapped_end : ℕ
  mapped_end = frame_of (seconds_at ps (beat_of (end_step note) stepsPerBeat) ⊠ f64 rate)

  unfoldable pub mapped_of : Mapped
  mapped_of = record { start = mapped_start; end = mapped_end; gain = clamp_of (human_gain note humanize) c0 c1 }

-- "length is end minus start (0 if negative), cut to n, then raised to at least 1"
unfoldable pub mapped_length : ℕ → ℕ → ℕ → ℕ
mapped_length start end n = max (min (end - start) n) 1
