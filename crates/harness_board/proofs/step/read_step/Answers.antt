-- `harness_board::step::read_step` meets its contract. Assumes nothing.
use Prim.Native.Nat.{◌<◌}
use lib.ListN.{length}
use native.Mathlib.Omega.{arith}
use Rattle.harness_board.proofs.Steps.{halts, read_cut, read_next}
use Rattle.harness_board.proofs.step.read_step.Goals as goal

pub returns-then-at-ops : goal.returns-then-at-ops
returns-then-at-ops c = halts _ _ (read_cut _ _ c.if-at-ops.true)

pub returns : goal.returns
returns c =
    let h : c.args.at < length c.args.ops.now = omega arith in
    rw (read_next c.args.ops.now c.args.at h, c.word.ensures, c.read.ensures)
