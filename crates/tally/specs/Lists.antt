-- What demand 3 says of one call and of one note of a list of score calls.
use Rattle.std.specs.Prelude.{ℕ, suc, ◌+◌, ◌≡◌, Ok}
use Rattle.rng.specs.SplitMix64.{state_after}
use Rattle.dsl.specs.declared.note.SeqNote.{SeqNote}
use Rattle.outcome.specs.Answer.{accepted, reported, frames_in, seen}
use Rattle.note_verdict.specs.NoteRefusals.{note_call_refusal}
use Rattle.note.specs.NoteCall.{NoteEvent}
use Rattle.score.specs.Score.{Score, draws_in, draws_before}
use Rattle.score_contract.specs.Frames.{samples_in, mix_note}
use Rattle.tally.specs.Alone.{alone_handed, alone_of}
use Rattle.tally.specs.Tally.{taken_after}

-- the draw at which note k of a call begins, the call beginning at draw d: the draws of the sounded notes before it are made
abbrev pub draw_of : Score → ℕ → ℕ → ℕ
draw_of s d k = d + draws_before s k

-- A sounded note of an accepted call that begins at draw d of the seed; it is note k, and m. It has the samples that a note call gives it alone from its own
-- draw. g is the state at that draw.
module _ (seed d : ℕ) (s : Score) (k : ℕ) (m : SeqNote) where
  abbrev pub state_of : ℕ
  state_of = state_after seed (draw_of s d k)

  -- A note call that was made, n: what it answered and left is the note in the score.
  pub record MadeAlone (n : NoteEvent) : Type 0 where
    -- it is accepted, and reports the note's draws
    pub answer : seen n.answer.outcome n.out ≡ accepted (draws_in s m) (samples_in s m state_of)
    -- what its output holds is what the score's frames gain
    pub samples : (taken_after seed s d (suc k)).frames ≡ mix_note s m n.out (taken_after seed s d k).frames
    -- the generator that it handed back is where the next note of the score begins
    pub leaves : n.answer.rng.0 ≡ state_after seed (draw_of s d (suc k))

  pub record PlayedAlone : Type 0 where
    -- the note call that plays it alone is accepted, and draws what demand 3 says
    pub accepted : note_call_refusal (alone_handed s m) ≡ Ok tt
    pub draws : reported (alone_of s m state_of) ≡ draws_in s m
    -- it begins at its own draw, and the samples of that note call are what the frames gain
    pub begins : (taken_after seed s d k).x ≡ draw_of s d k
    pub samples : (taken_after seed s d (suc k)).frames ≡ mix_note s m (frames_in (alone_of s m state_of)) (taken_after seed s d k).frames
    -- it leaves the state e draws further, where the next note begins
    pub leaves : state_after state_of (draws_in s m) ≡ state_after seed (draw_of s d (suc k))
