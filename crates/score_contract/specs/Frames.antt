-- The samples of a score's notes, and its frames.
use Rattle.std.specs.Prelude.{ℕ, zero, suc, ◌+◌, List, cond, Float}
use Rattle.rng.specs.SplitMix64.{state_after}
use Rattle.dsl.specs.Note.{of_note}
use Rattle.dsl.specs.declared.note.SeqNote.{SeqNote}
use Rattle.dsl.specs.declared.note.Decoded.{Decoded}
use Rattle.voice.specs.Voice.{note_frames}
use Rattle.mix.specs.Mix.{silence, mixed_at}
use Rattle.score.specs.Score.{Score, rate_in, note_in, note_count, place, skips, pitch, draws_before}

module _ (s : Score) (m : SeqNote) where
  -- from the state g, "at the call's rate, with its wave, its knobs and the note's own gain, over the pitch and duty of its sounded frames"
  unfoldable pub samples_in : ℕ → List Float
  samples_in g = note_frames (rate_in s) s.seq.voice m.gain (pitch s m) (λ _. s.seq.duty) g (place s m).sounded

  -- the frames with a note's samples added from its start on, "as in module 7": its envelope over its whole length, its grooved gain
  abbrev pub mix_note : List Float → List Float → List Float
  mix_note samples out = mixed_at (place s m).start samples s.seq.env (place s m).len (rate_in s) (place s m).gain out

  -- a skipped note adds none
  unfoldable pub mixed_in : ℕ → List Float → List Float
  mixed_in g out = cond (skips s m) out (mix_note (samples_in g) out)

-- the same of five words; those of no kind are refused with 8, and never played
unfoldable pub with_note : Score → Decoded → ℕ → List Float → List Float
with_note s e g out = of_note out (λ m. mixed_in s m g out) e

-- The frames after the first k notes, from the seed `seed` at draw d: "Its notes are taken in list order, with a draw x that starts at d .. A sounded note with e draws
-- starts from state s + x × G .. then x becomes x + e", so that x is d and the draws of the notes before.
unfoldable pub frames_after : Score → ℕ → ℕ → ℕ → List Float
frames_after s seed d zero = silence s.n
frames_after s seed d (suc k) = with_note s (note_in s k) (state_after seed (d + draws_before s k)) (frames_after s seed d k)

unfoldable pub score_frames : Score → ℕ → ℕ → List Float
score_frames s seed d = frames_after s seed d (note_count s)
