-- `tanh_block::element::tangent` meets its contract. Assumes nothing.
use borrow.Author.Rules.{rules}
use Rattle.tanh_block.specs.Inner.{tangent_of}
use Rattle.tanh_block.proofs.element.tangent.Goals as goal

pub returns : goal.returns
unfolding tangent_of
returns c =
    rw (
      c.pick-3.ensures,
      c.unit_sign.ensures,
      c.pick-2.ensures,
      c.pick.ensures,
      c.expm1_small-e.ensures,
      c.magnitude-a.ensures,
    )
