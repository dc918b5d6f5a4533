-- A curve with a hop h sounds as the widened curve with the hop 1. Assumes nothing.
use Prim.Native.Nat.{ℕ, ◌*◌, ◌≤◌}
use mathlib.Core.Path.{◌≡◌}
use mathlib.Core.List.{List}
use mathlib.Core.Bool.{cond}
use lib.Ieee.{Float}
use Rattle.dsl.specs.Pitch.{widened}
use Rattle.dsl.specs.declared.note.SeqNote.{SeqNote}
use Rattle.dsl.proofs.Hop.{as_widened}
use Rattle.groove.specs.Length.{skipped}
use Rattle.voice.specs.Voice.{note_frames}
use Rattle.mix.specs.Mix.{mixed_at}
use Rattle.score.specs.Score.{Score, rate_in, place, pitch}
use Rattle.score.proofs.Standing.{curved, stands_alike}
use Rattle.score_contract.specs.Frames.{samples_in, mixed_in}

-- the score with its lane widened, and the hop 1
abbrev pub widened_score : Score → Score
widened_score s = record {
  seq = record { timing = s.seq.timing; hop = 1; voice = s.seq.voice; duty = s.seq.duty; env = s.seq.env };
  notes = s.notes;
  lane = widened s.seq.hop s.lane;
  n = s.n;
  room = s.room;
  string = s.string;
}

module _ (s : Score) (some : 1 ≤ s.seq.hop) (step len offset : ℕ) (gain : Float) where
  abbrev here : SeqNote
  here = curved step len offset gain

  abbrev there : SeqNote
  there = curved step len (offset * s.seq.hop) gain

  abbrev wide : Score
  wide = widened_score s

  stands : place s here ≡ place wide there
  stands = stands_alike s.seq.timing s.n step len offset (offset * s.seq.hop) gain

  same_pitch : pitch s here ≡ pitch wide there
  same_pitch = λ j i. as_widened s.seq.hop some offset s.lane i j

  same_samples : (g : ℕ) → samples_in s here g ≡ samples_in wide there g
  unfolding samples_in
  same_samples g = λ j. note_frames (rate_in s) s.seq.voice gain (same_pitch j) (λ _. s.seq.duty) g (stands j).sounded

  -- THE THEOREM: what the note adds to the frames is what the widened curve, a value each frame, adds
  pub sounds_widened : (g : ℕ) (out : List Float) → mixed_in s here g out ≡ mixed_in wide there g out
  unfolding mixed_in
  sounds_widened g out =
      λ j. cond (skipped s.n (stands j).start) out
      (mixed_at (stands j).start (same_samples g j) s.seq.env (stands j).len (rate_in s) (stands j).gain out)
