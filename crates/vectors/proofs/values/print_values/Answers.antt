-- `vectors::values::print_values` meets its contract. Assumes nothing.
use Rattle.programs.proofs.Grown.{grows_then}
use Rattle.vectors.proofs.values.print_values.Goals as goal

pub returns-in_err-print : goal.returns-in_err-print
returns-in_err-print g c = grows_then _ _ _ c.loop-x.invariant c.print.ensures

pub loop-x-preserved : goal.loop-x-preserved
loop-x-preserved g c = grows_then _ _ _ c.loop-x.invariant c.print.ensures
