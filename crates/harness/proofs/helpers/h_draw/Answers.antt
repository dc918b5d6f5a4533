-- `harness::helpers::h_draw` meets its contract: the generator that draws stands at the state. Assumes nothing.
use borrow.Author.Rules.{rules}
use mathlib.Core.Path.{ap, ◌∙◌}
use Rattle.rng.specs.SplitMix64.{next}
use Rattle.harness.proofs.helpers.h_draw.Goals as goal

pub returns : goal.returns
returns c = c.next_u64-d.ensures.0 ∙ ap next c.new.ensures
