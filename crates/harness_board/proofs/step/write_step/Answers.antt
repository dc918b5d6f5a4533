-- `harness_board::step::write_step` meets its contract. Assumes nothing.
use mathlib.Core.Path.{sym, ◌∙◌}
use Prim.Native.Nat.{◌+◌, ◌≤◌}
use lib.ListN.{length, drop}
use native.Mathlib.Omega.{arith}
use Rattle.harness_board.proofs.Steps.{halts, left, write_short, write_cut, write_large, write_done}
use Rattle.harness_board.proofs.step.write_step.Goals as goal

pub returns-then-ops-at-lt2 : goal.returns-then-ops-at-lt2
returns-then-ops-at-lt2 c =
    halts _ _ (write_short (drop c.args.at c.args.ops.now) (left c.args.ops.now c.args.at c.requires c.if-ops-at-lt2.true))

pub returns-then-count-ops : goal.returns-then-count-ops
returns-then-count-ops c =
    let two : c.args.at + 2 ≤ length c.args.ops.now = omega arith in
    halts _ _ (write_cut c.args.ops.now c.args.at _ two c.wide-count.ensures c.if-count-ops.true)

pub write_words-write-requires : goal.write_words-write-requires
write_words-write-requires c = sym c.are_bytes.ensures ∙ c.if-are_bytes.true

pub returns-then-are_bytes : goal.returns-then-are_bytes
returns-then-are_bytes c =
    let two : c.args.at + 2 ≤ length c.args.ops.now = omega arith in
    let bytes = sym c.are_bytes.ensures ∙ c.if-are_bytes.true in
    write_done c.args.ops.now c.args.at _ two c.wide-count.ensures _ _ _ c.if-count-ops.false bytes c.write_words-write.ensures c.write_number.ensures

pub returns : goal.returns
returns c =
    let two : c.args.at + 2 ≤ length c.args.ops.now = omega arith in
    let bytes = sym c.are_bytes.ensures ∙ c.if-are_bytes.false in
    halts _ _ (write_large c.args.ops.now c.args.at _ two c.wide-count.ensures c.if-count-ops.false bytes)
