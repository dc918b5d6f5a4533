-- `dsl::kit::KitStyle::at` meets its contract: each arm is one place of the list, and the rest have no style. Assumes nothing.
use mathlib.Core.Path.{sym}
use Prim.Native.Nat.{zero-le}
use lib.ListN.{get_or-eq_default}
use Rattle.std.specs.Prelude.{None}
use Rattle.dsl.specs.Kit.{styles, style_at}
use Rattle.dsl.proofs.Places.{past}
use Rattle.dsl.proofs.kit.KitStyle.at.Goals as goal

pub returns-in-0 : goal.returns-in-0
unfolding style_at
returns-in-0 c = rw c.in-0.is

pub returns-in-1 : goal.returns-in-1
unfolding style_at
returns-in-1 c = rw c.in-1.is

pub returns-in-2 : goal.returns-in-2
unfolding style_at
returns-in-2 c = rw c.in-2.is

pub returns-in-3 : goal.returns-in-3
unfolding style_at
returns-in-3 c = rw c.in-3.is

pub returns-in_default : goal.returns-in_default
unfolding style_at
returns-in_default c =
    let r = c.in_default.in_default-own.rest in
    sym (get_or-eq_default styles None (past _ 3 (past _ 2 (past _ 1 (past _ 0 zero-le r.0.0.0.1) r.0.0.1) r.0.1) r.1))
