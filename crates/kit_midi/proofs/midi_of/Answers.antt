-- `kit_midi::midi_of` meets its contract: each call by what it ensures. Assumes nothing.
use borrow.Author.Rules.{rules}
use mathlib.Core.Path.{◌∙◌}
use mir.Syntax.{w32}
use mir.Val.{SFits}
use mir.Facts.{to_z-of_z}
use Rattle.kit_midi.specs.Midi.{midi_of}
use Rattle.kit_midi.proofs.midi_of.Goals as goal

pub returns : goal.returns
unfolding midi_of
returns c =
    let s : SFits w32 c.f32_to_i32.result = search rules in
    to_z-of_z s ∙ rw (c.f32_to_i32.ensures, c.round_f32.ensures, c.hz_to_midi-midi.ensures, c.max_f32.ensures)
