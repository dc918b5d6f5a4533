-- `text_voice_line::voice_of` meets its contract. Assumes nothing.
use borrow.Author.Tests.{eq-eqb, ne_eqb}
use Rattle.laws.proofs.If.{if_true, if_false}
use Rattle.text_voice_line.specs.Voice.{voice_of}
use borrow.Author.Rules.{rules}
use Rattle.text_voice_line.proofs.voice_of.Goals as goal

pub returns-then-place-eq-FM : goal.returns-then-place-eq-FM
unfolding voice_of
returns-then-place-eq-FM c = if_true _ (eq-eqb _ _ c.if-place-eq-FM.true) c.voice_with.ensures

pub returns-then-place-eq-PLUCK : goal.returns-then-place-eq-PLUCK
unfolding voice_of
returns-then-place-eq-PLUCK c = if_false _ (ne_eqb _ _ c.if-place-eq-FM.false) (if_true _ (eq-eqb _ _ c.if-place-eq-PLUCK.true) c.voice_with-then-place-eq-PLUCK.ensures)

pub returns-then-place-eq-PIANO : goal.returns-then-place-eq-PIANO
unfolding voice_of
returns-then-place-eq-PIANO c =
    if_false _ (ne_eqb _ _ c.if-place-eq-FM.false) (if_false _ (ne_eqb _ _ c.if-place-eq-PLUCK.false) (if_true _ (eq-eqb _ _ c.if-place-eq-PIANO.true) c.voice_with-then-place-eq-PIANO.ensures))

pub returns-then-place-eq-BASS : goal.returns-then-place-eq-BASS
unfolding voice_of
returns-then-place-eq-BASS c =
    if_false _ (ne_eqb _ _ c.if-place-eq-FM.false)
    (if_false _ (ne_eqb _ _ c.if-place-eq-PLUCK.false) (if_false _ (ne_eqb _ _ c.if-place-eq-PIANO.false) (if_true _ (eq-eqb _ _ c.if-place-eq-BASS.true) c.voice_with-then-place-eq-BASS.ensures)))

pub returns-then-place-eq-ORGAN : goal.returns-then-place-eq-ORGAN
unfolding voice_of
returns-then-place-eq-ORGAN c =
    if_false _ (ne_eqb _ _ c.if-place-eq-FM.false)
    (if_false _ (ne_eqb _ _ c.if-place-eq-PLUCK.false) (if_false _ (ne_eqb _ _ c.if-place-eq-PIANO.false)
    (if_false _ (ne_eqb _ _ c.if-place-eq-BASS.false) (if_true _ (eq-eqb _ _ c.if-place-eq-ORGAN.true) c.voice_with-then-place-eq-ORGAN.ensures))))

pub returns : goal.returns
unfolding voice_of
returns c =
    if_false _ (ne_eqb _ _ c.if-place-eq-FM.false)
    (if_false _ (ne_eqb _ _ c.if-place-eq-PLUCK.false) (if_false _ (ne_eqb _ _ c.if-place-eq-PIANO.false)
    (if_false _ (ne_eqb _ _ c.if-place-eq-BASS.false) (if_false _ (ne_eqb _ _ c.if-place-eq-ORGAN.false) c.voice_with-2.ensures))))
