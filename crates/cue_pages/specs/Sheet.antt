-- The cue sheet of a score (02, Card 7): what each note's line shows, and the pages.
use Rattle.std.specs.Prelude.{ℕ, zero, suc, ◌+◌, ◌-◌, ◌*◌, ◌/◌, ◌%◌, List, [], ◌∷◌, ◌++◌, cond, ltb, eqb, None, Some}
use Rattle.dsl.specs.Note.{of_note}
use Rattle.dsl.specs.declared.wave.SeqWave.{SeqWave}
use Rattle.dsl.specs.declared.note.SeqNote.{SeqNote}
use Rattle.dsl.specs.declared.note.Decoded.{Decoded}
use Rattle.score.specs.Score.{Score, wave_in, note_in, note_count, place, skips, draws_in, draws_before}
use Rattle.cue_line.specs.Line.{line_text}
use Rattle.cue_line.specs.declared.line.Cue.{Cue}

-- "A skipped note shows a dash for start frame and for first draw, and 0 frames and draws."
abbrev pub skipped_cue : SeqWave → ℕ → ℕ → Cue
skipped_cue wave k step = record { place = k; step = step; start = None; sounded = 0; wave = wave; first = None; draws = 0 }

module _ (s : Score) where
  -- a sounded note; `first` is "first draw, the count reached before the note"
  abbrev pub sounded_cue : ℕ → ℕ → SeqNote → Cue
  sounded_cue k first m = record {
    place = k;
    step = m.step;
    start = Some (place s m).start;
    sounded = (place s m).sounded;
    wave = wave_in s;
    first = Some first;
    draws = draws_in s m;
  }

  abbrev pub note_cue : ℕ → ℕ → SeqNote → Cue
  note_cue k first m = cond (skips s m) (skipped_cue (wave_in s) k m.step) (sounded_cue k first m)

  -- the same of five words; those of no kind are refused with 8, and never shown
  unfoldable pub cue_of : ℕ → ℕ → Decoded → Cue
  cue_of k first = of_note (skipped_cue (wave_in s) k 0) (note_cue k first)

-- "Sixty lines make a page, then a form feed (hexadecimal 0C) if more notes follow": what follows a line, after which there are so many lines of `count`
unfoldable pub page_end : ℕ → ℕ → List ℕ
page_end count lines = cond (eqb (lines % 60) 0) (cond (ltb lines count) (0x0c ∷ []) []) []

-- of a score whose first note begins at the draw d
module _ (s : Score) (d : ℕ) where
  abbrev pub note_line : ℕ → List ℕ
  note_line k = line_text (cue_of s k (d + draws_before s k) (note_in s k))

  -- the lines of the first k notes, "one line a note", in list order
  unfoldable pub lines_of : ℕ → List ℕ
  lines_of zero = []
  lines_of (suc k) = lines_of k ++ (note_line k ++ page_end (note_count s) (suc k))

  -- "A score of no notes gives an empty sheet."
  abbrev pub sheet_of : List ℕ
  sheet_of = lines_of (note_count s)

-- The length of the sheet of so many notes (the law `sheet_is_long`): 73 bytes a line, and a form feed after each page but the last.
abbrev pub sheet_length : ℕ → ℕ
sheet_length count = 73 * count + (count - 1) / 60
