-- `score_verdict::call::score_verdict` meets its contract. Assumes nothing.
use mathlib.Core.Path.{◌∙◌}
use Rattle.score.specs.Score.{Score, score_of}
use Rattle.outcome.proofs.First.{left_with}
use Rattle.score_verdict.proofs.Verdicts.{numbers_refuse, lists_refuse, call_fit, notes_decide}
use Rattle.score_verdict.proofs.call.score_verdict.Goals as goal

pub returns-in_err-numbers_verdict : goal.returns-in_err-numbers_verdict
returns-in_err-numbers_verdict c =
    let s : Score = score_of c.args.seq c.args.notes.now c.args.lane.now c.args.lent in
    left_with _ c.from_residual.ensures.1 ∙ numbers_refuse s c.in_err-numbers_verdict.ensures

pub returns-in_err-lists_verdict : goal.returns-in_err-lists_verdict
returns-in_err-lists_verdict c =
    let s : Score = score_of c.args.seq c.args.notes.now c.args.lane.now c.args.lent in
    left_with _ c.from_residual-in_err-lists_verdict.ensures.1 ∙ lists_refuse s c.in_ok-numbers_verdict.ensures c.in_err-lists_verdict.ensures

pub notes_verdict-requires : goal.notes_verdict-requires
notes_verdict-requires c =
    let s : Score = score_of c.args.seq c.args.notes.now c.args.lane.now c.args.lent in
    let f = call_fit s c.in_ok-numbers_verdict.ensures c.in_ok-lists_verdict.ensures in
    record { frames = f.frames; le_hop = f.hop_least }

pub returns : goal.returns
returns c =
    let s : Score = score_of c.args.seq c.args.notes.now c.args.lane.now c.args.lent in
    notes_decide s c.in_ok-numbers_verdict.ensures c.in_ok-lists_verdict.ensures c.notes_verdict.ensures
