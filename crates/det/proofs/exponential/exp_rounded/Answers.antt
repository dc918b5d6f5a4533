-- `det::exponential::exp_rounded` meets its contract. Assumes nothing.
use borrow.Author.Rules.{rules}
use Rattle.det.proofs.Casts.{round_whole}
use Rattle.det.specs.Exp.{exp_reduced}
use Rattle.det.proofs.exponential.exp_rounded.Goals as goal

pub exp_from-requires : goal.exp_from-requires
exp_from-requires c = rw c.round_f64.ensures (round_whole _)

pub returns : goal.returns
unfolding exp_reduced
returns c = rw (c.exp_from.ensures, c.round_f64.ensures)
