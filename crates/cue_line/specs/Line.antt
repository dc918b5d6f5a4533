-- The line of a note: "one line a note of a text score, 72 columns, holding list place from 0 (4 columns), step (8), start frame (9), sounded frames (9), wave name (10), first draw,
-- the count reached before the note (21) and draws (11), each right-aligned except the name. Columns follow without gaps; a line feed is added." (02, Card 7)
use Rattle.std.specs.Prelude.{ℕ, List, ◌++◌}
use Rattle.text_listing.specs.Digits.{decimal_text}
use Rattle.text_listing.specs.Lines.{line_end}
use Rattle.cue_line.specs.Columns.{right, left, cell_text}
use Rattle.cue_line.specs.Names.{wave_name}
use Rattle.cue_line.specs.declared.line.Cue.{Cue}

module _ (c : Cue) where
  -- "list place from 0 (4 columns), step (8), start frame (9), sounded frames (9)"
  abbrev pub time_text : List ℕ
  time_text = right 4 (decimal_text c.place) ++ (right 8 (decimal_text c.step) ++ (right 9 (cell_text c.start) ++ right 9 (decimal_text c.sounded)))

  -- "wave name (10), first draw .. (21) and draws (11)"; "a line feed is added"
  abbrev pub sound_text : List ℕ
  sound_text = left 10 (wave_name c.wave) ++ (right 21 (cell_text c.first) ++ (right 11 (decimal_text c.draws) ++ line_end))

  unfoldable pub line_text : List ℕ
  line_text = time_text ++ sound_text
