-- `vectors::replay::replay_cases` meets its contract. Assumes nothing.
use Rattle.std.proofs.Common.{rules, of_calls}
use Rattle.programs.proofs.Grown.{grows_then}
use Rattle.vectors.proofs.replay.replay_cases.Goals as goal

pub loop-line-preserved : goal.loop-line-preserved
loop-line-preserved g c = (search (rules, of_calls), grows_then _ _ _ c.loop-line.invariant.1 (c.requires.grows _ _ _ _ _ _ _ c.each.ensures))

pub returns-in_err-each : goal.returns-in_err-each
returns-in_err-each g c = grows_then _ _ _ c.loop-line.invariant.1 (c.requires.grows _ _ _ _ _ _ _ c.each.ensures)
