-- `text_voice_line::knob_count` meets its contract. Assumes nothing.
use borrow.Author.Tests.{eq-eqb, ne_eqb}
use mathlib.Core.Path.{refl}
use borrow.Author.Rules.{rules}
use Rattle.laws.proofs.If.{if_true, if_false}
use Rattle.text_voice_line.specs.Voice.{knob_count}
use Rattle.text_voice_line.proofs.knob_count.Goals as goal

pub returns-then-place-eq-FM : goal.returns-then-place-eq-FM
unfolding knob_count
returns-then-place-eq-FM c = if_true _ (eq-eqb _ _ c.if-place-eq-FM.true) refl

pub returns-then-place-eq-PLUCK : goal.returns-then-place-eq-PLUCK
unfolding knob_count
returns-then-place-eq-PLUCK c = if_false _ (ne_eqb _ _ c.if-place-eq-FM.false) (if_true _ (eq-eqb _ _ c.if-place-eq-PLUCK.true) refl)

pub returns-then-place-eq-PIANO : goal.returns-then-place-eq-PIANO
unfolding knob_count
returns-then-place-eq-PIANO c = if_false _ (ne_eqb _ _ c.if-place-eq-FM.false) (if_false _ (ne_eqb _ _ c.if-place-eq-PLUCK.false) (if_true _ (eq-eqb _ _ c.if-place-eq-PIANO.true) refl))

pub returns-then-place-eq-BASS : goal.returns-then-place-eq-BASS
unfolding knob_count
returns-then-place-eq-BASS c =
    if_false _ (ne_eqb _ _ c.if-place-eq-FM.false) (if_false _ (ne_eqb _ _ c.if-place-eq-PLUCK.false) (if_false _ (ne_eqb _ _ c.if-place-eq-PIANO.false)
    (if_true _ (eq-eqb _ _ c.if-place-eq-BASS.true) refl)))

pub bar_count-requires : goal.bar_count-requires
bar_count-requires c = search rules

pub returns-then-place-eq-ORGAN : goal.returns-then-place-eq-ORGAN
unfolding knob_count
returns-then-place-eq-ORGAN c =
    if_false _ (ne_eqb _ _ c.if-place-eq-FM.false) (if_false _ (ne_eqb _ _ c.if-place-eq-PLUCK.false)
    (if_false _ (ne_eqb _ _ c.if-place-eq-PIANO.false) (if_false _ (ne_eqb _ _ c.if-place-eq-BASS.false) (if_true _ (eq-eqb _ _ c.if-place-eq-ORGAN.true) c.bar_count.ensures))))

pub returns : goal.returns
unfolding knob_count
returns c =
    if_false _ (ne_eqb _ _ c.if-place-eq-FM.false) (if_false _ (ne_eqb _ _ c.if-place-eq-PLUCK.false)
    (if_false _ (ne_eqb _ _ c.if-place-eq-PIANO.false) (if_false _ (ne_eqb _ _ c.if-place-eq-BASS.false) (if_false _ (ne_eqb _ _ c.if-place-eq-ORGAN.false) refl))))
