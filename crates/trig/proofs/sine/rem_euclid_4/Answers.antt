-- `trig::sine::rem_euclid_4` meets its contract. Assumes nothing.
use Rattle.std.proofs.Common.{◌≡◌, ◌-◌, ◌%◌, ◌^◌, ◌<◌, ℤ, pos, negsuc, ◌-ℤ◌, nat_abs, ap, ◌∙◌, w64, to_z, of_z, rules}
use lib.Signed.{mag}
use Rattle.trig.specs.Trig.{rem_euclid4}
use Rattle.float.proofs.Signed.{back, in_range, cast, pos_fits, pos_back, pos_cast}
use Rattle.trig.proofs.Remainder.{plain, mirrored, rem_plain, rem_mirrored}
use Rattle.trig.proofs.sine.rem_euclid_4.Goals as goal

abbrev read : ℤ → ℤ
read q = to_z w64 (of_z w64 q)

pub overflow_cast-result : goal.overflow_cast-result
overflow_cast-result c =
    let range : mag (read c.args.q) < 2 ^ 63 = in_range c.args.q c.ranges.q.sfits in
    cast (read c.args.q) (mag (read c.args.q)) (plain (read c.args.q) c.if-q-ge0.true) range

pub returns-then-q-ge0 : goal.returns-then-q-ge0
returns-then-q-ge0 c = rem_plain (read c.args.q) c.if-q-ge0.true ∙ ap rem_euclid4 (back c.args.q c.ranges.q.sfits)

pub overflow_sub-result : goal.overflow_sub-result
overflow_sub-result c =
    let range : mag (read c.args.q) < 2 ^ 63 = in_range c.args.q c.ranges.q.sfits in
    let turned : negsuc 0 -ℤ read c.args.q ≡ pos (mag (read c.args.q)) = mirrored (read c.args.q) c.if-q-ge0.false in
    pos_fits (negsuc 0 -ℤ read c.args.q) (mag (read c.args.q)) turned range

pub overflow_cast-result-2 : goal.overflow_cast-result-2
overflow_cast-result-2 c =
    let range : mag (read c.args.q) < 2 ^ 63 = in_range c.args.q c.ranges.q.sfits in
    let turned : negsuc 0 -ℤ read c.args.q ≡ pos (mag (read c.args.q)) = mirrored (read c.args.q) c.if-q-ge0.false in
    pos_cast (negsuc 0 -ℤ read c.args.q) (mag (read c.args.q)) turned range

pub returns : goal.returns
returns c =
    let range : mag (read c.args.q) < 2 ^ 63 = in_range c.args.q c.ranges.q.sfits in
    let turned : negsuc 0 -ℤ read c.args.q ≡ pos (mag (read c.args.q)) = mirrored (read c.args.q) c.if-q-ge0.false in
    ap (λ (y : ℤ). 3 - nat_abs y % 4) (pos_back (negsuc 0 -ℤ read c.args.q) (mag (read c.args.q)) turned range)
    ∙ rem_mirrored (read c.args.q) c.if-q-ge0.false
    ∙ ap rem_euclid4 (back c.args.q c.ranges.q.sfits)
