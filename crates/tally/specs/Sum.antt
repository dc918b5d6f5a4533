-- Each frame is the sum in list order: one frame of a score, note by note, with the samples that note calls give.
use Rattle.std.specs.Prelude.{ℕ, zero, suc, ◌+◌, ◌-◌, List, Bool, false, cond, ltb, leb, Float}
use Rattle.ieee.specs.Numbers.{c0}
use Rattle.rng.specs.SplitMix64.{state_after}
use Rattle.dsl.specs.Note.{of_note}
use Rattle.dsl.specs.declared.note.SeqNote.{SeqNote}
use Rattle.dsl.specs.declared.note.Decoded.{Decoded}
use Rattle.mix.specs.Mix.{gained}
use Rattle.outcome.specs.Answer.{frames_in}
use Rattle.score.specs.Score.{Score, rate_in, note_in, place, draws_before}
use Rattle.tally.specs.Alone.{alone_of}

-- whether frame i is one of the m frames from `start` on
abbrev pub among : ℕ → ℕ → ℕ → Bool
among start m i = cond (leb start i) (ltb i (start + m)) false

-- what frame i holds after a note, y being what it held: (sample × envelope) × grooved gain is added where the note sounds
abbrev pub gained_by : Score → SeqNote → List Float → ℕ → Float → Float
gained_by s m samples i y =
    let p = place s m in
    cond (among p.start p.sounded i) (gained samples s.seq.env p.len (rate_in s) p.gain (i - p.start) y) y

-- the samples are those of the note call that plays the note alone from the state g
unfoldable pub gained_at : Score → Decoded → ℕ → ℕ → Float → Float
gained_at s e g i y = of_note y (λ m. gained_by s m (frames_in (alone_of s m g)) i y) e

-- frame i after the first k notes, from the seed `seed` at draw d: plus zero, and what each note adds in list order
unfoldable pub frame_after : Score → ℕ → ℕ → ℕ → ℕ → Float
frame_after s seed d i zero = c0
frame_after s seed d i (suc k) = gained_at s (note_in s k) (state_after seed (d + draws_before s k)) i (frame_after s seed d i k)
