-- `kit_parts::times::at_times` meets its contract. Assumes nothing.
use native.Mathlib.Omega.{arith}
use lib.ListN.{length-set}
use Rattle.blocks.proofs.Block.{tabled_none, tabled_more, tabled_all}
use Rattle.kit_parts.proofs.times.at_times.Goals as goal

pub loop-i-init : goal.loop-i-init
loop-i-init g c = (omega arith, omega arith, c.requires.a_len, λ by is. tabled_none)

pub loop-i-preserved : goal.loop-i-preserved
loop-i-preserved g c = (
  omega arith,
  omega arith,
  rw length-set c.loop-i.invariant.2,
  λ by is. tabled_more (c.loop-i.invariant.3 by is) (omega arith) (omega arith) (is _ _ (omega arith) (omega arith) (rw c.frame_time.ensures at c.level.ensures)),
)

pub returns : goal.returns
returns g c = record {
  a_len = c.loop-i.invariant.2;
  tabled = λ by is. tabled_all (c.loop-i.invariant.3 by is) (omega arith);
}
