-- `frame_block::run::frames` meets its contract by the law `Carried`. Assumes nothing.
use Rattle.std.proofs.Common.{arith}
use Rattle.blocks.proofs.Carried.{carried_more}
use Rattle.frame_block.proofs.run.frames.Goals as goal

pub loop-i-preserved : goal.loop-i-preserved
loop-i-preserved g c =
    (omega arith, λ by is. carried_more (c.loop-i.invariant.1 by is) (omega arith) (is _ _ _ (omega arith) (omega arith) c.step-r.ensures))
