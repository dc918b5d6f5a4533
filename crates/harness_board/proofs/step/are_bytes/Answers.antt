-- `harness_board::step::are_bytes` meets its contract. Assumes nothing.
use mathlib.Core.Path.{refl}
use native.Mathlib.Omega.{arith}
use Rattle.harness_board.proofs.Words.{ahead_more, ahead_large, ahead_end}
use Rattle.harness_board.proofs.step.are_bytes.Goals as goal

pub loop-word-init : goal.loop-word-init
loop-word-init c = (refl, omega arith)

pub returns-then-word-gt255 : goal.returns-then-word-gt255
returns-then-word-gt255 c = let at = c.loop-word in ahead_large c.args.words.now at.word-index at.invariant.0 (omega arith) c.if-word-gt255.true

pub loop-word-preserved : goal.loop-word-preserved
loop-word-preserved c = let at = c.loop-word in (ahead_more c.args.words.now at.word-index at.invariant.0 (omega arith) c.if-word-gt255.false, omega arith)

pub returns : goal.returns
returns c = ahead_end c.args.words.now c.loop-word.word-index c.loop-word.invariant.0 (omega arith)
