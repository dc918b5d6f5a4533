-- `text_voice_line::style_field` meets its contract. Assumes nothing.
use mathlib.Core.Path.{refl}
use native.Mathlib.Omega.{arith}
use borrow.Author.Tests.{eq-eqb, ne_eqb}
use Rattle.laws.proofs.If.{if_true, if_false}
use Rattle.text_lines.proofs.Small.{field_small}
use Rattle.text_voice_line.specs.Voice.{style_field}
use Rattle.text_voice_line.proofs.style_field.Goals as goal

pub returns-then-place-ne-KIT : goal.returns-then-place-ne-KIT
unfolding style_field
returns-then-place-ne-KIT c = if_false _ (ne_eqb _ _ c.if-place-ne-KIT.true) refl

pub returns-in_err-number : goal.returns-in_err-number
unfolding style_field
returns-in_err-number c = if_true _ (eq-eqb _ _ c.if-place-ne-KIT.false) (rw (c.from_residual.ensures, ← (rw c.in_err-number.was at c.field.ensures)))

pub overflow_cast-number : goal.overflow_cast-number
overflow_cast-number c =
    let h = field_small _ c.args.at c.args.s.now c.in_ok-number.was c.field.ensures in
    omega arith

pub returns-in_err-style : goal.returns-in_err-style
unfolding style_field
returns-in_err-style c =
    if_true _ (eq-eqb _ _ c.if-place-ne-KIT.false) (rw (c.from_residual-in_err-style.ensures, ← (rw c.in_ok-number.was at c.field.ensures), ← c.at.ensures, c.in_err-style.was))

pub returns : goal.returns
unfolding style_field
returns c =
    if_true _ (eq-eqb _ _ c.if-place-ne-KIT.false) (rw (← (rw c.in_ok-number.was at c.field.ensures), ← c.at.ensures, c.in_ok-style.was))
