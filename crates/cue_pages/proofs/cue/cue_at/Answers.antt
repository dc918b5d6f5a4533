-- `cue_pages::cue::cue_at` meets its contract. Assumes nothing.
use mathlib.Core.Path.{sym, ap, ◌∙◌}
use borrow.Author.Tests.{lt-leb}
use Rattle.dsl.proofs.Cases.{no_note_left}
use Rattle.score.specs.Score.{Score, score_of}
use Rattle.score.proofs.Accepted.{place_asks}
use borrow.Author.Rules.{rules}
use Rattle.cue_pages.specs.Sheet.{cue_of}
use Rattle.cue_pages.proofs.Cues.{cue_other, cue_skipped, cue_sounded}
use Rattle.cue_pages.proofs.cue.cue_at.Goals as goal

pub returns-in_default : goal.returns-in_default
returns-in_default c =
    let score_in_start : Score = score_of c.args.seq c.args.notes.now c.args.lane.now c.args.lent in
    let s = score_in_start in
    c.skipped_cue.ensures ∙ cue_other s _ c.args.first _ (no_note_left _ c.in_default.not-Note) ∙ ap (cue_of s c.args.k c.args.first) c.note_at.ensures

pub place_note-place-requires : goal.place_note-place-requires
place_note-place-requires c =
    let score_in_start : Score = score_of c.args.seq c.args.notes.now c.args.lane.now c.args.lent in
    (let whole = place_asks score_in_start c.requires.lent_value _ c.requires.k_in_bounds _ (sym c.note_at.ensures ∙ c.in-Note.is) in record { frames = whole.0; numeric = whole.1 })

pub returns-then-place-n : goal.returns-then-place-n
returns-then-place-n c =
    let score_in_start : Score = score_of c.args.seq c.args.notes.now c.args.lane.now c.args.lent in
    let is = sym c.note_at.ensures ∙ c.in-Note.is in
    rw is (c.skipped_cue-then-place-n.ensures ∙ cue_skipped score_in_start _ c.args.first _ (rw c.place_note-place.ensures at c.if-place-n.true))

pub returns : goal.returns
returns c =
    let score_in_start : Score = score_of c.args.seq c.args.notes.now c.args.lane.now c.args.lent in
    let is = sym c.note_at.ensures ∙ c.in-Note.is in
    let place = c.place_note-place.ensures in
    let heard = lt-leb _ _ (rw place at c.if-place-n.false) in
    rw (place, is) (cue_sounded score_in_start _ c.args.first _ heard (rw is at c.requires.draws_value))
