-- The note call that plays a sounded note of a score alone: "Its samples are those of a note call .., at the call's rate, with its wave, its knobs and the note's own gain,
-- over the pitch and duty of its sounded frames."
use Rattle.std.specs.Prelude.{ℕ, ◌<◌, ◌≡◌, false}
use Rattle.laws.specs.Listed.{listed}
use Rattle.dsl.specs.declared.note.SeqNote.{SeqNote}
use Rattle.dsl.specs.declared.note.Decoded.TheVariants.{Note}
use Rattle.outcome.specs.Answer.{Result, accepted}
use Rattle.note_verdict.specs.NoteRefusals.{NoteHanded}
use Rattle.note.specs.NoteCall.{note_result_of}
use Rattle.score.specs.Score.{Score, rate_in, note_in, note_count, place, skips, pitch, draws_in}
use Rattle.score_contract.specs.Frames.{samples_in}

-- what that note call is handed; its string buffer is as long as the score call's
abbrev pub alone_handed : Score → SeqNote → NoteHanded
alone_handed s m =
    let frames = (place s m).sounded in
    record {
      rate = rate_in s;
      voice = s.seq.voice;
      gain = m.gain;
      pitch = listed (pitch s m) frames;
      duty = listed (λ _. s.seq.duty) frames;
      n = frames;
      string = s.string;
    }

-- what it comes to from the generator's state g
unfoldable pub alone_of : Score → SeqNote → ℕ → Result
alone_of s m g = note_result_of (alone_handed s m) g

-- it is accepted for each sounded note, and has the draws and the samples that the score call gives the note from that state
abbrev pub Alone : Score → Type 0
Alone s = (k : ℕ) (m : SeqNote) (g : ℕ) → k < note_count s → note_in s k ≡ Note m → skips s m ≡ false → alone_of s m g ≡ accepted (draws_in s m) (samples_in s m g)
