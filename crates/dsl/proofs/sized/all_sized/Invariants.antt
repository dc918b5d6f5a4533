-- The loops of `dsl::sized::all_sized`.
use mathlib.Core.Path.{◌≡◌, refl}
use mathlib.Core.Bool.{false, cond}
use native.Mathlib.Omega.{arith}
use Prim.Native.Nat.{◌-◌, ◌≤◌}
use lib.ListN.{length, drop}
use borrow.Author.Rules.{rules}
use Rattle.dsl.specs.Sized.{all_sized}
use Rattle.dsl.proofs.Sizing.{passed, ended}
use Rattle.dsl.proofs.sized.all_sized.Given as goal

abbrev pub invariant-loop-x : goal.invariant-loop-x
invariant-loop-x l = (cond l.all (all_sized (drop l.x-index l.xs)) false ≡ all_sized l.xs) × (l.x-index ≤ length l.xs)
