-- `remainder::parts::unit_f32` meets its contract. Assumes nothing.
use borrow.Author.Rules.{rules}
use mathlib.Core.Path.{sym, subst}
use Prim.Native.Nat.{◌^◌}
use native.Mathlib.Nat.{le_of_lt, lt_of_lt_of_le}
use lib.Dec.{lit≤}
use lib.Ieee.{Float}
use lib.Ieee.Exact.{HasValue}
use Rattle.remainder.proofs.Cases.{shifted, unit_low, unit_mid}
use Rattle.remainder.proofs.parts.unit_f32.Goals as goal

pub signed_f32-requires : goal.signed_f32-requires
signed_f32-requires c = le_of_lt (lt_of_lt_of_le (shifted c.args.k c.if-k-lt23.true) (lit≤ tt))

pub returns-then-k-lt23 : goal.returns-then-k-lt23
returns-then-k-lt23 c =
    let a = c.args in
    subst (λ (x : Float). HasValue x a.negative (2 ^ a.k) (2 ^ 149)) (sym c.signed_f32.ensures) (unit_low a.negative a.k c.if-k-lt23.true)

pub returns : goal.returns
returns c =
    let a = c.args in
    subst (λ (x : Float). HasValue x a.negative (2 ^ a.k) (2 ^ 149)) (sym c.signed_f32-2.ensures) (unit_mid a.negative a.k c.if-k-lt23.false c.requires)
