-- `kit_midi::first_drum` meets its contract: the number is read back from its bits. Assumes nothing.
use mathlib.Core.Path.{ap, ◌∙◌}
use borrow.Author.Rules.{rules}
use mir.Syntax.{w32}
use mir.Val.{SFits}
use mir.Facts.{to_z-of_z}
use Rattle.drum.specs.Drums.{drum_of}
use Rattle.kit_midi.proofs.first_drum.Goals as goal

pub returns : goal.returns
returns c =
    let fits : SFits w32 c.midi_of-midi.result = search rules in
    c.drum_of.ensures ∙ ap drum_of (to_z-of_z fits ∙ c.midi_of-midi.ensures)
