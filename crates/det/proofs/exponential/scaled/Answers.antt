-- `det::exponential::scaled` meets its contract. k is read back from its bits. Assumes nothing.
use borrow.Author.Rules.{rules}
use mathlib.Core.Path.{ap, ◌∙◌}
use Prim.Native.Nat.{◌^◌, ◌<◌}
use lib.IntN.{ℤ, pos, ◌-ℤ◌}
use lib.Signed.{mag}
use mir.Syntax.{w64}
use mir.Val.{to_z, of_z}
use Rattle.laws.proofs.If.{if_true, if_false}
use Rattle.float.proofs.Signed.{back, in_range}
use Rattle.det.specs.Exp.{scaled}
use Rattle.det.proofs.Powers.{one_less}
use Rattle.det.proofs.exponential.scaled.Goals as goal

abbrev read : ℤ → ℤ
read k = to_z w64 (of_z w64 k)

pub overflow_sub-k : goal.overflow_sub-k
overflow_sub-k c =
    let less : mag (read c.args.k -ℤ pos 1) < 2 ^ 63 = one_less _ (read c.args.k) c.if-k-ge1024.true (in_range c.args.k c.ranges.k.sfits) in
    record { sfits = less }

pub ldexp2-requires : goal.ldexp2-requires
ldexp2-requires c = search rules

pub returns-then-k-ge1024 : goal.returns-then-k-ge1024
unfolding scaled
returns-then-k-ge1024 c =
    let less : mag (read c.args.k -ℤ pos 1) < 2 ^ 63 = one_less _ (read c.args.k) c.if-k-ge1024.true (in_range c.args.k c.ranges.k.sfits) in
    if_true _ c.if-k-ge1024.true (rw (c.ldexp2.ensures, back (read c.args.k -ℤ pos 1) less))
    ∙ ap (scaled c.args.y) (back c.args.k c.ranges.k.sfits)

pub ldexp2-requires-2 : goal.ldexp2-requires-2
ldexp2-requires-2 c = search rules

pub returns : goal.returns
unfolding scaled
returns c =
    if_false _ c.if-k-ge1024.false (rw c.ldexp2-2.ensures) ∙ ap (scaled c.args.y) (back c.args.k c.ranges.k.sfits)
