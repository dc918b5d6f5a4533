-- What a score call comes to as 01 alone has it, with no hop: each note takes its pitch by "the lane's value at offset + i". That a score whose hop is 1 comes to this: proofs/EachFrame.
use Rattle.std.specs.Prelude.{ℕ, zero, suc, ◌+◌, List, cond, ltb, Float}
use Rattle.rng.specs.SplitMix64.{state_after}
use Rattle.dsl.specs.Note.{of_note}
use Rattle.dsl.specs.Pitch.{value_at}
use Rattle.dsl.specs.declared.note.SeqNote.{SeqNote}
use Rattle.dsl.specs.declared.note.Decoded.{Decoded}
use Rattle.voice.specs.Voice.{note_frames}
use Rattle.mix.specs.Mix.{silence}
use Rattle.outcome.specs.Answer.{number_of, Result, refused, accepted, unless}
use Rattle.outcome.specs.declared.answer.Refusal.TheVariants.{NoStation}
use Rattle.score.specs.Score.{Score, rate_in, note_in, note_count, place, skips}
use Rattle.score.specs.EachFrame.{each_note_draws, each_score_draws, each_refusal_at}
use Rattle.session.specs.Opened.{station_in}
use Rattle.session.specs.declared.session.Session.{Session}
use Rattle.score_contract.specs.Frames.{mix_note}

module _ (s : Score) where
  -- a note's samples, as `samples_in`
  unfoldable pub each_samples_in : SeqNote → ℕ → List Float
  each_samples_in m g = note_frames (rate_in s) s.seq.voice m.gain (value_at m.pitch s.lane) (λ _. s.seq.duty) g (place s m).sounded

  unfoldable pub each_mixed_in : SeqNote → ℕ → List Float → List Float
  each_mixed_in m g out = cond (skips s m) out (mix_note s m (each_samples_in m g) out)

  unfoldable pub each_with_note : Decoded → ℕ → List Float → List Float
  each_with_note e g out = of_note out (λ m. each_mixed_in m g out) e

  unfoldable pub each_draws_before : ℕ → ℕ
  each_draws_before zero = 0
  each_draws_before (suc k) = each_draws_before k + each_note_draws s (note_in s k)

  unfoldable pub each_frames_after : ℕ → ℕ → ℕ → List Float
  each_frames_after seed d zero = silence s.n
  each_frames_after seed d (suc k) = each_with_note (note_in s k) (state_after seed (d + each_draws_before k)) (each_frames_after seed d k)

  unfoldable pub each_score_frames : ℕ → ℕ → List Float
  each_score_frames seed d = each_frames_after seed d (note_count s)

  -- the refusal's number, or the draws and the frames, on a station whose generator stands at g and whose count is d
  unfoldable pub each_result_of : ℕ → ℕ → Result
  each_result_of g d = unless (each_refusal_at s d) (accepted (each_score_draws s) (each_score_frames g 0))

-- the same on station k of a session
unfoldable pub each_result_at : Session → ℕ → Score → Result
each_result_at a k s = cond (ltb 7 k) (refused (number_of NoStation)) (each_result_of s (station_in a k).rng.0 (station_in a k).draw)
