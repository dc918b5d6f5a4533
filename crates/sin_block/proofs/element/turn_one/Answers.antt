-- `sin_block::element::turn_one` meets its contract. Assumes nothing.
use mathlib.Core.Path.{ap, ◌∙◌}
use denote.Floats.{passes}
use Rattle.ieee.specs.Binary64.{◌⊞◌}
use Rattle.ieee.specs.Numbers64.{d0}
use Rattle.trig.specs.Trig.{less_turns, reduce2pi}
use Rattle.sin_block.proofs.OneSumWholes.{reduced}
use borrow.Author.Rules.{rules}
use Rattle.sin_block.proofs.element.turn_one.Goals as goal

pub returns : goal.returns
returns c =
    let w = c.widen-w in (
      c.unsure-bad.ensures.0,
      λ e.
          c.less_turns-value.ensures
          ∙ ap (less_turns (w.result ⊞ d0)) c.whole.ensures ∙ reduced w.result (passes _ w.type_inv) (c.unsure-bad.ensures.1 e) ∙ ap reduce2pi w.ensures,
    )
