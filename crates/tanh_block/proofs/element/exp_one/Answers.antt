-- `tanh_block::element::exp_one` meets its contract. Assumes nothing.
use mathlib.Core.Path.{ap, sym, ◌∙◌, subst}
use mathlib.Core.Bool.{not}
use lib.Ieee.{Float, binary64, fits, is_nan}
use lib.Ieee.Fits.{and_i}
use borrow.Author.Rules.{rules}
use Rattle.ieee.specs.Binary64.{◌⊠◌}
use Rattle.ieee.specs.Numbers64.{d2}
use Rattle.det.specs.Exp.{exp_reduced}
use Rattle.det.specs.Low.{High}
use Rattle.tanh_block.proofs.Tangent.{inner_number, inner_high, inner_exp}
use Rattle.tanh_block.proofs.element.exp_one.Goals as goal

pub float_to_float-x : goal.float_to_float-x
float_to_float-x c = let x = c.args.x in and_i (fits binary64 x) (not (is_nan x)) (search rules) (inner_number x c.requires)

pub exp_high-requires : goal.exp_high-requires
exp_high-requires c = subst (λ (a : Float). High (d2 ⊠ a)) (sym c.magnitude.ensures) (inner_high c.args.x c.requires)

pub returns : goal.returns
returns c = c.exp_high.ensures ∙ ap (λ (a : Float). exp_reduced (d2 ⊠ a)) c.magnitude.ensures ∙ inner_exp c.args.x c.requires
