-- `dsl::sized::all_sized` meets its contract. The loop's invariant: whether those passed and those from i on are all sized is whether all are. Assumes nothing.
use mathlib.Core.Path.{◌≡◌, refl}
use mathlib.Core.Bool.{false, cond}
use native.Mathlib.Omega.{arith}
use Prim.Native.Nat.{◌-◌, ◌≤◌}
use lib.ListN.{length, drop}
use borrow.Author.Rules.{rules}
use Rattle.dsl.specs.Sized.{all_sized}
use Rattle.dsl.proofs.Sizing.{passed, ended}
use Rattle.dsl.proofs.sized.all_sized.Goals as goal

pub loop-x-init : goal.loop-x-init
loop-x-init c = (refl, omega arith)

pub loop-x-preserved : goal.loop-x-preserved
loop-x-preserved c =
    let at = c.loop-x in
    (passed c.args.xs.now at.x-index at.all c.is_sized-all.result c.is_sized-all.ensures (omega arith) at.invariant.0, omega arith)

pub returns : goal.returns
returns c = ended c.args.xs.now c.loop-x.x-index c.loop-x.all c.loop-x.invariant.0 (omega arith)
