-- `note::call::seq_note_signal` meets its contract. Assumes nothing.
use mathlib.Core.Path.{refl, sym, ◌∙◌}
use lib.ListN.{length}
use Rattle.dsl.proofs.Reach.{reaches_own}
use native.Mathlib.Omega.{arith}
use Rattle.note.proofs.Calls.{accepted_note_facts, refused_note, accepted_note}
use borrow.Author.Rules.{rules}
use Rattle.note.proofs.call.seq_note_signal.Goals as goal

pub returns-in-Err : goal.returns-in-Err
returns-in-Err c = refused_note _ (sym c.in-Err.is ∙ c.note_call_verdict.ensures) c.refused.ensures refl refl

pub bounds-pitch-0 : goal.bounds-pitch-0
bounds-pitch-0 c = (accepted_note_facts _ (sym (sym c.in_default.is ∙ c.note_call_verdict.ensures))).some

pub voice_note-after-requires : goal.voice_note-after-requires
voice_note-after-requires c =
    let f = accepted_note_facts _ (sym (sym c.in_default.is ∙ c.note_call_verdict.ensures)) in
    let a = c.args in
    let some = f.some in
    let frames = f.frames in
    let duties = f.duties in
    let few = f.most.most in
    let is = c.new-curve.ensures in
    record {
      rate = f.rated;
      out_nonzero = omega arith;
      frames = f.most;
      in_bounds = f.stringed;
      reaches = rw is (reaches_own (length a.pitch.now) (length a.out.now) (omega arith) (omega arith) few);
      reaches_2 = rw is (reaches_own (length a.duty.now) (length a.out.now) (omega arith) (omega arith) few);
    }

pub returns : goal.returns
returns c =
    let voice = c.voice_note-after in
    let is = c.new-curve.ensures in
    let fine = sym c.in_default.is ∙ c.note_call_verdict.ensures in
    accepted_note _ fine voice.result c.draw_count-e.result c.draw_count-e.ensures (rw is at voice.ensures.result_value) refl (rw is at voice.ensures.out_after) voice.ensures.string_unchanged
