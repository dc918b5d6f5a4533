-- `score_draws::note_draws` meets its contract. Assumes nothing.
use mathlib.Core.Path.{sym, ap, ◌∙◌}
use borrow.Author.Tests.{lt-leb}
use Rattle.dsl.proofs.Cases.{no_note_left}
use Rattle.score.specs.Score.{Score, score_of, draws_in, note_draws}
use Rattle.score.proofs.Accepted.{accepted_score, place_asks, first_reached}
use Rattle.score.proofs.Notes.{skipped_draws, sounded_draws}
use borrow.Author.Rules.{rules}
use Rattle.score_draws.proofs.note_draws.Goals as goal

pub returns-in_default : goal.returns-in_default
unfolding note_draws
returns-in_default c =
    let score_in_start : Score = score_of c.args.seq c.args.notes.now c.args.lane.now c.args.lent in
    let s = score_in_start in
    sym ((no_note_left c.note_at.result c.in_default.not-Note).other 0 (draws_in s)) ∙ ap (note_draws s) c.note_at.ensures

pub place_note-place-requires : goal.place_note-place-requires
place_note-place-requires c =
    let score_in_start : Score = score_of c.args.seq c.args.notes.now c.args.lane.now c.args.lent in
    (let whole = place_asks score_in_start c.requires.lent_value _ c.requires.k_in_bounds _ (sym c.note_at.ensures ∙ c.in-Note.is) in record { frames = whole.0; numeric = whole.1 })

pub returns-then-place-lent : goal.returns-then-place-lent
returns-then-place-lent c =
    let score_in_start : Score = score_of c.args.seq c.args.notes.now c.args.lane.now c.args.lent in
    let is = sym c.note_at.ensures ∙ c.in-Note.is in
    rw is (skipped_draws score_in_start _ (rw c.place_note-place.ensures at c.if-place-lent.true))

pub new-reading-requires : goal.new-reading-requires
new-reading-requires c =
    let score_in_start : Score = score_of c.args.seq c.args.notes.now c.args.lane.now c.args.lent in
    (accepted_score score_in_start c.requires.lent_value).fit.hop_least

pub at-requires : goal.at-requires
at-requires c =
    let score_in_start : Score = score_of c.args.seq c.args.notes.now c.args.lane.now c.args.lent in
    rw c.new-reading.ensures (first_reached score_in_start c.requires.lent_value _ c.requires.k_in_bounds _ (sym c.note_at.ensures ∙ c.in-Note.is))

pub returns : goal.returns
returns c =
    let score_in_start : Score = score_of c.args.seq c.args.notes.now c.args.lane.now c.args.lent in
    let is = sym c.note_at.ensures ∙ c.in-Note.is in
    let place = c.place_note-place.ensures in
    let heard = lt-leb _ _ (rw place at c.if-place-lent.false) in
    c.draw_count.ensures ∙ rw (c.at.ensures, c.new-reading.ensures, place, is) (sounded_draws score_in_start _ heard)
