-- `float::whole_f64::near_f64` meets its contract: `half_taken`. Assumes nothing.
use Rattle.std.proofs.Common.{sym, refl}
use denote.Floats.{passes}
use lib.Ieee.{binary64, of_bits}
use Rattle.laws.proofs.If.{if_true, if_false}
use Rattle.float.specs.Small.{Small}
use Rattle.float.proofs.Wholes.{parts, half_taken}
use Rattle.float.proofs.Signs.{near_given, near_none}
use Rattle.float.proofs.whole_f64.near_f64.Goals as goal

pub nearest_f64-n-requires : goal.nearest_f64-n-requires
unfolding of_bits
nearest_f64-n-requires c = record { positive = c.if-x.true; below = c.if-x-2.true }

pub returns-then-x-n : goal.returns-then-x-n
unfolding of_bits
returns-then-x-n c =
    let small : Small binary64 c.args.x = record { positive = c.if-x.true; below = c.if-x-2.true } in
    let n = c.nearest_f64-n in
    near_given c.args.x n.result (sym (if_true _ c.if-x.true (if_true _ c.if-x-2.true (sym (rw n.ensures at c.if-x-n.true)))))
    (half_taken (parts binary64 c.args.x small) (passes _ c.well_formed.0.1) n.result n.ensures c.if-x-n.true)

pub returns-else-x-n : goal.returns-else-x-n
returns-else-x-n c = near_none _ (sym (if_true _ c.if-x.true (if_true _ c.if-x-2.true (sym (rw c.nearest_f64-n.ensures at c.if-x-n.false)))))

pub returns-else-x-2 : goal.returns-else-x-2
returns-else-x-2 c = near_none _ (sym (if_true _ c.if-x.true (if_false _ c.if-x-2.false refl)))

pub returns-else-x : goal.returns-else-x
returns-else-x c = near_none _ (sym (if_false _ c.if-x.false refl))
