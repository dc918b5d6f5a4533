-- `det::logarithm::fold_exp` meets its contract. Assumes nothing.
use Rattle.laws.proofs.If.{if_true, if_false}
use Rattle.float.proofs.Signed.{back}
use Rattle.det.proofs.Pattern.{next_fits, next_is}
use Rattle.det.proofs.logarithm.fold_exp.Goals as goal

pub overflow_add-result : goal.overflow_add-result
overflow_add-result c = next_fits c.args.exp_bits c.requires

pub returns-then-mant : goal.returns-then-mant
returns-then-mant c = if_true _ c.if-mant.true (next_is c.args.exp_bits c.requires)

pub returns-else-mant : goal.returns-else-mant
returns-else-mant c = if_false _ c.if-mant.false (back c.args.exp_bits c.ranges.exp_bits.sfits)
