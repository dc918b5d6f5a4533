-- `harness::kits::h_kit_draws` meets its contract: the drum's number is read back from its bits. Assumes nothing.
use borrow.Author.Rules.{rules}
use mathlib.Core.Path.{ap, ◌∙◌}
use lib.IntN.{ℤ}
use mir.Facts.{to_z-of_z}
use Rattle.dsl.specs.Kit.{style_at}
use Rattle.harness_kit.specs.Hits.{hit_draws}
use Rattle.harness.proofs.kits.h_kit_draws.Goals as goal

pub returns : goal.returns
returns c =
    let a = c.args in
    c.hit_draws.ensures ∙ ap (λ (z : ℤ). hit_draws (style_at a.style) z a.rate a.frames) (to_z-of_z c.ranges.midi)
