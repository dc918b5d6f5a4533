-- `programs::print_all` meets its contract. Assumes nothing.
use Rattle.std.proofs.Common.{◌+◌, ◌-◌, rules, arith, length, subst}
use Rattle.std.proofs.KnownBytes.{Appends-trans}
use Rattle.std.specs.Io.KnownBytes.{Appends}
use Rattle.programs.proofs.Filled.{take_more}
use Rattle.programs.proofs.print_all.Goals as goal

pub loop-done-preserved : goal.loop-done-preserved
loop-done-preserved g c =
    let bytes = c.args.bytes.now in
    let done = c.loop-done.done in
    let joined = take_more done c.in_ok-taken.taken (length bytes - done) bytes (omega (arith, c.in_ok-taken.ensures.bound)) in
    (search rules, subst (Appends _ _) joined (Appends-trans _ _ _ _ _ c.loop-done.invariant.1 c.in_ok-taken.ensures.bytes))
