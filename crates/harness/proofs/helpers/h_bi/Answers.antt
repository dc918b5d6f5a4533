-- `harness::helpers::h_bi` meets its contract: the generator that `bi` draws from stands at the state. Assumes nothing.
use borrow.Author.Rules.{rules}
use mathlib.Core.Path.{ap, ◌∙◌}
use Rattle.rng.specs.Draw.{bi_from}
use Rattle.harness.proofs.helpers.h_bi.Goals as goal

pub returns : goal.returns
returns c = c.bi-d.ensures.0 ∙ ap bi_from c.new.ensures
