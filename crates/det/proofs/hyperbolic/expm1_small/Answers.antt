-- `det::hyperbolic::expm1_small` meets its contract. Assumes nothing.
use mathlib.Core.Path.{refl}
use Rattle.det.specs.Tanh.{expm1_small}
use Rattle.det.proofs.hyperbolic.expm1_small.Goals as goal

pub returns : goal.returns
unfolding expm1_small
returns c = refl
