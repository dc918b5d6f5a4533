-- `score_note::sound_note` meets its contract: what `sound_counted` ensures, of the generator alone. Assumes nothing.
use mathlib.Core.Path.{ap}
use Rattle.score_note.specs.declared.Drawn.{Drawn}
use Rattle.score_note.proofs.sound_note.Goals as goal

pub returns : goal.returns
returns c =
    let e = c.sound_counted-sounded.ensures in
    record {
      value = ap (λ (d : Drawn). d.rng.0) e.value;
      out_after = e.out_after;
      note_buf_unchanged = e.note_buf_unchanged;
      string_unchanged = e.string_unchanged;
    }
