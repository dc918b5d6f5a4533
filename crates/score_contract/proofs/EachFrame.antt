-- "With h = 1 all scores play as they did": refusals, draws and frames of a score whose hop is 1 are those of 01 alone (`EachFrame` of specs/). Assumes nothing.
use Prim.Native.Nat.{ℕ, zero, suc, ◌+◌}
use mathlib.Core.Path.{◌≡◌, refl, ap, ◌∙◌}
use mathlib.Core.List.{List}
use mathlib.Core.Bool.{cond}
use lib.Dec.{ltb}
use lib.Ieee.{Float}
use Rattle.rng.specs.SplitMix64.{state_after}
use Rattle.dsl.specs.declared.note.SeqNote.{SeqNote}
use Rattle.dsl.specs.declared.note.Decoded.{Decoded}
use Rattle.dsl.proofs.Cases.{by_words}
use Rattle.voice.specs.Voice.{note_frames}
use Rattle.outcome.specs.Answer.{accepted, unless, seen}
use Rattle.score.specs.Score.{Score, rate_in, note_in, note_count, place, skips, draws_before}
use Rattle.score.proofs.EachFrame.{hop_1_pitch, hop_1_note_draws, hop_1_draws, hop_1_refusal_at}
use Rattle.session.specs.Opened.{station_in}
use Rattle.session.specs.declared.session.Session.{Session}
use Rattle.score_contract.specs.Frames.{samples_in, mix_note, mixed_in, with_note, frames_after, score_frames}
use Rattle.score_contract.specs.ScoreCall.{score_in, result_of}
use Rattle.score_contract.specs.SessionCall.{SessionEvent, SessionScored, on_station, result_at}
use Rattle.score_contract.specs.EachFrame.{each_samples_in, each_mixed_in, each_with_note, each_draws_before, each_frames_after, each_score_frames, each_result_of, each_result_at}

module _ (s : Score) (one : s.seq.hop ≡ 1) where
  samples_same : (m : SeqNote) (g : ℕ) → samples_in s m g ≡ each_samples_in s m g
  unfolding samples_in each_samples_in
  samples_same m g = λ j. note_frames (rate_in s) s.seq.voice m.gain (hop_1_pitch s one m j) (λ _. s.seq.duty) g (place s m).sounded

  mixed_same : (m : SeqNote) (g : ℕ) (out : List Float) → mixed_in s m g out ≡ each_mixed_in s m g out
  unfolding mixed_in each_mixed_in
  mixed_same m g out = λ j. cond (skips s m) out (mix_note s m (samples_same m g j) out)

  note_same : (g : ℕ) (out : List Float) (e : Decoded) → with_note s e g out ≡ each_with_note s e g out
  unfolding with_note each_with_note
  note_same g out = by_words (λ e. with_note s e g out ≡ each_with_note s e g out) (λ m. mixed_same m g out) (λ u. refl) refl

  before_same : (k : ℕ) → draws_before s k ≡ each_draws_before s k
  unfolding draws_before each_draws_before
  before_same zero = refl
  before_same (suc k) = λ j. before_same k j + hop_1_note_draws s one (note_in s k) j

  after_same : (seed d k : ℕ) → frames_after s seed d k ≡ each_frames_after s seed d k
  unfolding frames_after each_frames_after
  after_same seed d zero = refl
  after_same seed d (suc k) =
      note_same (state_after seed (d + draws_before s k)) (frames_after s seed d k) (note_in s k)
      ∙ (λ j. each_with_note s (note_in s k) (state_after seed (d + before_same k j)) (after_same seed d k j))

  -- the frames, from the seed `seed` at draw d
  pub hop_1_frames : (seed d : ℕ) → score_frames s seed d ≡ each_score_frames s seed d
  unfolding score_frames each_score_frames
  hop_1_frames seed d = after_same seed d (note_count s)

  -- the whole result on one station
  pub hop_1_result : (g d : ℕ) → result_of s g d ≡ each_result_of s g d
  unfolding result_of each_result_of
  hop_1_result g d = λ j. unless (hop_1_refusal_at s one d j) (accepted (hop_1_draws s one j) (hop_1_frames g 0 j))

  -- THE THEOREM: with the hop 1 a score is refused and played as 01 alone has it
  pub hop_1_played : (a : Session) (k : ℕ) → result_at a k s ≡ each_result_at a k s
  unfolding result_at each_result_at
  hop_1_played a k = ap (cond (ltb 7 k) _) (hop_1_result (station_in a k).rng.0 (station_in a k).draw)

-- so it is of every call that was made
pub hop_1_answers : (a : Session) (e : SessionEvent) → SessionScored a e → e.seq.hop ≡ 1 → seen e.answer.outcome e.out ≡ each_result_at a e.station (score_in (on_station e))
hop_1_answers a e scored one = scored.answer ∙ hop_1_played (score_in (on_station e)) one a e.station
