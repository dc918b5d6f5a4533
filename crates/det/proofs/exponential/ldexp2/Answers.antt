-- `det::exponential::ldexp2` meets its contract. k is read back from its bits, so each answer is first shown of that number and then of k. Assumes nothing.
use borrow.Author.Rules.{rules}
use mathlib.Core.Path.{refl, ap, ◌∙◌}
use Prim.Native.Nat.{ℕ, ◌*◌, ◌^◌}
use native.Mathlib.Nat.{lt_trans}
use native.Mathlib.Omega.{arith}
use lib.Dec.{lit<}
use lib.IntN.{ℤ, pos, nat_abs, ◌+ℤ◌}
use lib.Ieee.{binary64, of_bits}
use mir.Syntax.{w64}
use mir.Val.{to_z, of_z}
use Rattle.laws.proofs.If.{if_true, if_false}
use Rattle.ieee.proofs.Rounding.{unit_is}
use Rattle.det.specs.Exp.{ldexp2_of}
use Rattle.ieee.proofs.Nans.{plain_bits}
use Rattle.float.proofs.Signed.{back}
use Rattle.det.proofs.Powers.{Lifted, subnormal, normal, sum_fits, sum_cast, sum_is, sum_below, shifted, shifted_low, digit_low}
use Rattle.det.proofs.exponential.ldexp2.Goals as goal

abbrev read : ℤ → ℤ
read k = to_z w64 (of_z w64 k)

pub returns-then-k-gt1023 : goal.returns-then-k-gt1023
unfolding ldexp2_of
returns-then-k-gt1023 c = if_true _ c.if-k-gt1023.true c.infinity.ensures ∙ ap ldexp2_of (back c.args.k c.ranges.k.sfits)

pub returns-then-k-ltminus1074 : goal.returns-then-k-ltminus1074
unfolding ldexp2_of
returns-then-k-ltminus1074 c =
    if_false _ c.if-k-gt1023.false (if_true _ c.if-k-ltminus1022.true (if_true _ c.if-k-ltminus1074.true refl))
    ∙ ap ldexp2_of (back c.args.k c.ranges.k.sfits)

pub overflow_add-result : goal.overflow_add-result
overflow_add-result c =
    let low : Lifted (read c.args.k) 1074 52 = subnormal (read c.args.k) c.if-k-ltminus1022.true c.if-k-ltminus1074.false in
    sum_fits low (lit< tt)

pub overflow_cast-result : goal.overflow_cast-result
overflow_cast-result c =
    let low : Lifted (read c.args.k) 1074 52 = subnormal (read c.args.k) c.if-k-ltminus1022.true c.if-k-ltminus1074.false in
    sum_cast low (lit< tt)

pub overflow_shl-result : goal.overflow_shl-result
overflow_shl-result c =
    let low : Lifted (read c.args.k) 1074 52 = subnormal (read c.args.k) c.if-k-ltminus1022.true c.if-k-ltminus1074.false in
    omega (arith, sum_below low (lit< tt))

pub float_from_bits-result : goal.float_from_bits-result
float_from_bits-result c =
    let low : Lifted (read c.args.k) 1074 52 = subnormal (read c.args.k) c.if-k-ltminus1022.true c.if-k-ltminus1074.false in
    let place : ℕ = nat_abs (read (read c.args.k +ℤ pos 1074)) in
    plain_bits binary64 _ (digit_low place (sum_below low (lit< tt)))

pub returns-then-k-ltminus1022 : goal.returns-then-k-ltminus1022
unfolding ldexp2_of
returns-then-k-ltminus1022 c =
    let low : Lifted (read c.args.k) 1074 52 = subnormal (read c.args.k) c.if-k-ltminus1022.true c.if-k-ltminus1074.false in
    let place : ℕ = nat_abs (read (read c.args.k +ℤ pos 1074)) in
    let pattern = unit_is place (lt_trans (sum_below low (lit< tt)) (lit< tt)) ∙ ap (λ (n : ℕ). 2 ^ n) (sum_is low (lit< tt)) in
    if_false _ c.if-k-gt1023.false (if_true _ c.if-k-ltminus1022.true (if_false _ c.if-k-ltminus1074.false (ap (of_bits binary64) pattern)))
    ∙ ap ldexp2_of (back c.args.k c.ranges.k.sfits)

pub overflow_add-result-2 : goal.overflow_add-result-2
overflow_add-result-2 c =
    let high : Lifted (read c.args.k) 1023 2047 = normal (read c.args.k) c.if-k-gt1023.false c.if-k-ltminus1022.false in
    sum_fits high (lit< tt)

pub overflow_cast-result-2 : goal.overflow_cast-result-2
overflow_cast-result-2 c =
    let high : Lifted (read c.args.k) 1023 2047 = normal (read c.args.k) c.if-k-gt1023.false c.if-k-ltminus1022.false in
    sum_cast high (lit< tt)

pub float_from_bits-result-2 : goal.float_from_bits-result-2
float_from_bits-result-2 c =
    let high : Lifted (read c.args.k) 1023 2047 = normal (read c.args.k) c.if-k-gt1023.false c.if-k-ltminus1022.false in
    let field : ℕ = nat_abs (read (read c.args.k +ℤ pos 1023)) in
    plain_bits binary64 _ (shifted_low field (sum_below high (lit< tt)))

pub returns : goal.returns
unfolding ldexp2_of
returns c =
    let high : Lifted (read c.args.k) 1023 2047 = normal (read c.args.k) c.if-k-gt1023.false c.if-k-ltminus1022.false in
    let field : ℕ = nat_abs (read (read c.args.k +ℤ pos 1023)) in
    let pattern = shifted field (sum_below high (lit< tt)) ∙ ap (λ (n : ℕ). n * 2 ^ 52) (sum_is high (lit< tt)) in
    if_false _ c.if-k-gt1023.false (if_false _ c.if-k-ltminus1022.false (ap (of_bits binary64) pattern))
    ∙ ap ldexp2_of (back c.args.k c.ranges.k.sfits)
