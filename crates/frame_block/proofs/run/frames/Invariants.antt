-- The loop of `frame_block::run::frames`.
use Rattle.std.proofs.Common.{◌≤◌}
use Rattle.blocks.proofs.Carried.{Carried}
use Rattle.frame_block.specs.Run.{AnswersAs}
use Rattle.frame_block.proofs.run.frames.Given as goal

abbrev pub invariant-loop-i : goal.invariant-loop-i
invariant-loop-i g l =
    (l.i ≤ l.end)
    × ((by : _) → AnswersAs (goal.F-post g l.step) by l.from l.end → Carried by (λ o. o.sample) (λ o. o.state) l.from l.i l.initial.out l.initial.s l.out l.s)
