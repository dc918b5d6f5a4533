-- `text_voice_line::bars_of` meets its contract. Assumes nothing.
use borrow.Author.Rules.{rules}
use borrow.Author.Tests.{eq-eqb, ne_eqb}
use Rattle.laws.proofs.If.{if_true, if_false}
use Rattle.text_voice_line.specs.Voice.{bars_of}
use Rattle.text_voice_line.proofs.bars_of.Goals as goal

pub returns-then-bits-eq0 : goal.returns-then-bits-eq0
unfolding bars_of
returns-then-bits-eq0 c = if_true _ (eq-eqb _ _ c.if-bits-eq0.true) c.bars.ensures

pub returns : goal.returns
unfolding bars_of
returns c =
    if_false _ (ne_eqb _ _ c.if-bits-eq0.false)
    (rw (c.float_at-10.ensures, c.float_at-9.ensures, c.float_at-8.ensures, c.float_at-7.ensures, c.float_at-6.ensures)
    (rw (c.float_at-5.ensures, c.float_at-4.ensures, c.float_at-3.ensures, c.float_at-2.ensures, c.float_at.ensures)))
