-- What a call comes to, by 01's numbers, and what it leaves.
use Rattle.std.specs.Prelude.{ℕ, List, [], Float, Ok, Err}
use Rattle.outcome.specs.declared.answer.Refusal.{Refusal}
use Rattle.outcome.specs.declared.answer.Refusal.TheVariants.{NoStation, Rate, Frames, Tempo, StepsPerBeat, Tone, TempoPoints, TempoOrder, Groove, Knobs, Hop, Words}
use Rattle.outcome.specs.declared.answer.Refusal.TheVariants.{Kind, Steps, Size, Lane, Reach, NoPitch, Lengths, NoteBuffer, StringBuffer, Draws}
use Rattle.outcome.specs.Outcome.{Outcome, Verdict}

-- 01's number of a refusal
abbrev pub number_of : Refusal → ℕ
number_of NoStation = 33
number_of Rate = 1
number_of Frames = 2
number_of Tempo = 3
number_of StepsPerBeat = 4
number_of Tone = 30
number_of TempoPoints = 31
number_of TempoOrder = 32
number_of Groove = 5
number_of Knobs = 6
number_of Hop = 35
number_of Words = 7
number_of Kind = 8
number_of Steps = 9
number_of Size = 10
number_of Lane = 11
number_of Reach = 12
number_of NoPitch = 13
number_of Lengths = 14
number_of NoteBuffer = 20
number_of StringBuffer = 21
number_of Draws = 22

-- a refusal's number, or an accepted call's draws and frames
pub data Result : Type 0 where
  refused : ℕ → Result
  accepted : ℕ → List Float → Result

-- r, unless it is refused
abbrev pub unless : Verdict → Result → Result
unless (Ok _) r = r
unless (Err why) r = refused (number_of why)

-- an answer with the frames that were left
abbrev pub seen : Outcome → List Float → Result
seen (Ok draws) out = accepted draws out
seen (Err r) out = refused (number_of r)

-- a refusal's number, 0 for an accepted call
abbrev pub number_of_result : Result → ℕ
number_of_result (refused number) = number
number_of_result (accepted draws frames) = 0

-- the draws that a call reports: a refused one 0
abbrev pub reported : Result → ℕ
reported (refused number) = 0
reported (accepted draws frames) = draws

-- the frames of an accepted call
abbrev pub frames_in : Result → List Float
frames_in (refused number) = []
frames_in (accepted draws frames) = frames

-- "A refusal .. changes nothing"
abbrev pub out_after : List Float → Result → List Float
out_after out (refused number) = out
out_after out (accepted draws frames) = frames

-- how many values of a buffer are free: none after a refusal, the first m after an accepted call
abbrev pub free : ℕ → Result → ℕ
free m (refused number) = 0
free m (accepted draws frames) = m
