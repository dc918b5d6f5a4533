-- `det::exponential::exp_from` meets its contract. Assumes nothing.
use borrow.Author.Rules.{rules}
use Rattle.det.specs.Exp.{less_ln2, exp_near, exp_from}
use Rattle.float.proofs.Signed.{back}
use Rattle.det.proofs.exponential.exp_from.Goals as goal

pub returns : goal.returns
unfolding less_ln2 exp_near exp_from
returns c = rw (c.scaled.ensures, back c.rounded_to_i64.result c.rounded_to_i64.type_inv, c.rounded_to_i64.ensures)
