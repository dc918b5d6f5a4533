-- `score_draws::draws_fit` meets its contract. Assumes nothing.
use mathlib.Core.Path.{sym, ◌∙◌}
use borrow.Author.Tests.{le-leb}
use borrow.Author.Rules.{rules}
use Rattle.score.specs.Score.{Score, score_of, score_draws}
use Rattle.score_draws.proofs.Last.{some_fits}
use Rattle.score_draws.proofs.Most.{few_fit}
use Rattle.score_draws.proofs.draws_fit.Goals as goal

pub returns-then-count-left : goal.returns-then-count-left
returns-then-count-left c =
    let score_in_start : Score = score_of c.args.seq c.args.notes.now c.args.lane.now c.args.lent in
    sym (le-leb _ _ (few_fit score_in_start c.args.left c.requires c.if-count-left.true))

pub returns : goal.returns
returns c =
    let score_in_start : Score = score_of c.args.seq c.args.notes.now c.args.lane.now c.args.lent in
    c.is_some.ensures ∙ some_fits c.args.left (score_draws score_in_start) _ c.score_draws.ensures
