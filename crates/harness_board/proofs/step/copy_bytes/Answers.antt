-- `harness_board::step::copy_bytes` meets its contract. Assumes nothing.
use mathlib.Core.Path.{refl}
use lib.ListN.{length-set}
use native.Mathlib.Omega.{arith}
use Rattle.harness_board.proofs.Words.{byte_at, copied_more, copied_all}
use Rattle.harness_board.proofs.step.copy_bytes.Goals as goal

pub loop-i-init : goal.loop-i-init
loop-i-init c = (refl, omega arith, c.requires.bytes_len)

pub overflow_cast-bytes : goal.overflow_cast-bytes
overflow_cast-bytes c = omega (arith, byte_at c.args.words.now c.loop-i.i c.requires.words_value (omega arith))

pub loop-i-preserved : goal.loop-i-preserved
loop-i-preserved c =
    let at = c.loop-i in
    (copied_more c.args.words.now c.args.bytes.now at.bytes at.i at.invariant.0 (omega arith) c.requires.bytes_len, omega arith, simp length-set at.invariant.2)

pub returns : goal.returns
returns c =
    copied_all c.args.words.now c.args.bytes.now c.loop-i.bytes c.loop-i.i c.loop-i.invariant.0 (omega arith) c.requires.bytes_len
