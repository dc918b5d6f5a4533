-- `score_verdict::notes::pitched_verdict` meets its contract. Assumes nothing.
use mathlib.Core.Path.{sym, ◌∙◌}
use borrow.Author.Tests.{not-true}
use Rattle.outcome.proofs.First.{left_with}
use Rattle.score.specs.Score.{Score, score_of}
use Rattle.score.proofs.Standing.{len_least}
use Rattle.score_verdict.proofs.Verdicts.{values_refuse, values_number, reach_decides, uncurved_decides}
use borrow.Author.Rules.{rules}
use Rattle.score_verdict.proofs.notes.pitched_verdict.Goals as goal

pub returns-in_err-values_verdict : goal.returns-in_err-values_verdict
returns-in_err-values_verdict c =
    let score_in_start : Score = score_of c.args.seq c.args.notes.now c.args.lane.now c.args.lent in
    left_with _ c.from_residual.ensures.1 ∙ values_refuse score_in_start c.args.note c.in_err-values_verdict.ensures

pub returns-then-not-is_curve : goal.returns-then-not-is_curve
returns-then-not-is_curve c =
    let score_in_start : Score = score_of c.args.seq c.args.notes.now c.args.lane.now c.args.lent in
    let fine = c.in_ok-values_verdict.ensures in
    uncurved_decides score_in_start c.args.note fine (sym c.is_curve.ensures ∙ not-true _ c.if-not-is_curve.true-raw)

pub place_note-place-requires : goal.place_note-place-requires
place_note-place-requires c =
    let score_in_start : Score = score_of c.args.seq c.args.notes.now c.args.lane.now c.args.lent in
    record {
      frames = c.requires.frames;
      numeric = values_number score_in_start c.args.note c.in_ok-values_verdict.ensures;
    }

pub passes-requires : goal.passes-requires
passes-requires c =
    record {
      le_hop = c.requires.le_hop;
      le_n = rw c.place_note-place.ensures (len_least c.args.seq.timing c.args.lent.n c.args.note);
    }

pub returns : goal.returns
returns c =
    let score_in_start : Score = score_of c.args.seq c.args.notes.now c.args.lane.now c.args.lent in
    let fine = c.in_ok-values_verdict.ensures in
    reach_decides score_in_start c.args.note fine (c.refuse_if.ensures ∙ rw (
      c.passes.ensures,
      c.place_note-place.ensures,
    ))
