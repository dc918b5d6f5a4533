-- `remainder::rem::rem_patterns` meets its contract. Assumes nothing.
use borrow.Author.Rules.{rules}
use mathlib.Core.Path.{refl, sym, subst}
use Prim.Native.Nat.{ℕ, ◌<◌}
use native.Mathlib.Nat.{lt_of_le_of_lt}
use Rattle.remainder.proofs.Patterns.{place_lt}
use Rattle.remainder.proofs.Cases.{divisor, places, few, whole_fits, product}
use Rattle.remainder.proofs.rem.rem_patterns.Goals as goal

pub overflow_sub-place : goal.overflow_sub-place
overflow_sub-place c =
    let p = c.requires in
    places c.args.m c.args.n c.place-k.result c.significand.result c.place.result _ 0 p.0 p.1
    c.place-k.ensures c.significand.ensures c.place.ensures refl

pub rem_shifted-r-requires : goal.rem_shifted-r-requires
rem_shifted-r-requires c =
    let p = c.requires in
    divisor c.args.m c.args.n c.place-k.result c.significand.result c.place.result c.significand-2.result 0 p.0 p.1
    c.place-k.ensures c.significand.ensures c.place.ensures c.significand-2.ensures

pub int_to_float-result : goal.int_to_float-result
int_to_float-result c =
    let p = c.requires in
    whole_fits c.rem_shifted-r.result
    (few c.args.m c.args.n c.place-k.result c.significand.result c.place.result c.significand-2.result
    c.rem_shifted-r.result p.0 p.1
    c.place-k.ensures c.significand.ensures c.place.ensures c.significand-2.ensures c.rem_shifted-r.ensures)

pub unit_f32-requires : goal.unit_f32-requires
unit_f32-requires c =
    let p = c.requires in
    subst (λ (k : ℕ). k < 254) (sym c.place-k.ensures) (place_lt c.args.n (lt_of_le_of_lt p.1 p.2))

pub returns : goal.returns
returns c =
    let p = c.requires in
    let r = c.rem_shifted-r in
    product c.args.m c.args.n c.place-k.result c.significand.result c.place.result c.significand-2.result
    r.result p.0 p.1
    c.place-k.ensures c.significand.ensures c.place.ensures c.significand-2.ensures
    c.args.negative c.unit_f32.result r.ensures c.unit_f32.ensures
