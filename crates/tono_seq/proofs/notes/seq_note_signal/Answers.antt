-- `tono_seq::notes::seq_note_signal` meets its contract. Assumes nothing.
use mathlib.Core.Path.{refl, sym, ◌∙◌}
use Rattle.raw_call.proofs.Ends.{none_holds}
use Rattle.tono_seq.proofs.NoteEnds.{not_called, call_holds}
use borrow.Author.Rules.{rules}
use Rattle.tono_seq.proofs.notes.seq_note_signal.Goals as goal

pub returns-in_default : goal.returns-in_default
returns-in_default c = not_called _ (sym c.in_default.is ∙ c.voice_at.ensures) (none_holds _ refl refl refl refl) refl

pub returns : goal.returns
returns c =
    let voice = sym c.in-Some.is ∙ c.voice_at.ensures in
    let call = c.seq_note_signal-answer.ensures in
    call_holds _ _ _ _ voice c.new-rng.ensures call c.number_of.ensures c.draws_of.ensures c.state.ensures
