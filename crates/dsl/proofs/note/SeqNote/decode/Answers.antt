-- `dsl::note::SeqNote::decode` meets its contract. Assumes nothing.
use borrow.Author.Rules.{rules}
use borrow.Author.Tests.{eq-eqb, ne_eqb}
use mathlib.Core.Path.{refl}
use Rattle.laws.proofs.If.{if_true, if_false}
use Rattle.dsl.specs.Note.{note_of}
use Rattle.dsl.proofs.note.SeqNote.decode.Goals as goal

pub returns-then-kind-eq0 : goal.returns-then-kind-eq0
unfolding note_of
returns-then-kind-eq0 c = if_true _ (eq-eqb _ _ c.if-kind-eq0.true) (rw (c.f32_from_bits-then-kind-eq0.ensures, c.f32_from_bits.ensures))

pub returns-then-kind-eq1 : goal.returns-then-kind-eq1
unfolding note_of
returns-then-kind-eq1 c = if_false _ (ne_eqb _ _ c.if-kind-eq0.false) (if_true _ (eq-eqb _ _ c.if-kind-eq1.true) (rw c.f32_from_bits-then-kind-eq1.ensures))

pub returns-then-kind-eq2 : goal.returns-then-kind-eq2
unfolding note_of
returns-then-kind-eq2 c =
    if_false _ (ne_eqb _ _ c.if-kind-eq0.false)
    (if_false _ (ne_eqb _ _ c.if-kind-eq1.false) (if_true _ (eq-eqb _ _ c.if-kind-eq2.true) c.tuned.ensures))

pub returns : goal.returns
unfolding note_of
returns c = if_false _ (ne_eqb _ _ c.if-kind-eq0.false) (if_false _ (ne_eqb _ _ c.if-kind-eq1.false) (if_false _ (ne_eqb _ _ c.if-kind-eq2.false) refl))
