-- The score call of a text score.
use Rattle.std.specs.Prelude.{ℕ, List, []}
use Rattle.score.specs.Score.{Score}
use Rattle.score.specs.declared.seq.Seq.{Seq}

-- the score call of some numbers and a voice, note words and n frames: an empty lane ("Text pitches are numbers, never curves"), a note buffer of 2,048 values and a string
-- buffer of 9,600, so that neither 20 nor 21 applies
abbrev pub call_of : Seq → List ℕ → ℕ → Score
call_of seq notes n = record { seq = seq; notes = notes; lane = []; n = n; room = 2048; string = 9600 }
