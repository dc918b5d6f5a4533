-- `trig::sine::sin_reduced` meets its contract. Assumes nothing.
use Rattle.std.proofs.Common.{pos, negsuc, refl, ◌∙◌, lit<, rules}
use lib.Ieee.{of_bits, neg, of_int, round, size, units, odd}
use Rattle.ieee.specs.Binary64.{◌⧄◌}
use Rattle.ieee.proofs.Between.{near, near_mirrored, near_signed, zero_signed}
use Rattle.trig.specs.Trig.{FRAC·PI·2, rem_euclid4}
use Rattle.trig.proofs.Quarters.{quarter}
use Rattle.trig.proofs.sine.sin_reduced.Goals as goal

pub returns-then-back : goal.returns-then-back
unfolding of_bits rem_euclid4 of_int round size units odd
returns-then-back c =
    c.by_quadrant.ensures ∙ quarter c.args.r (pos 0) 0 _ (zero_signed (c.args.r ⧄ FRAC·PI·2) c.if-t.true c.if-back.true 63) refl refl

pub returns-then-back-2 : goal.returns-then-back-2
unfolding of_bits neg rem_euclid4 of_int round size units odd
returns-then-back-2 c =
    let n = near_mirrored 1 (c.args.r ⧄ FRAC·PI·2) c.if-back.false c.if-back-2.true in
    c.by_quadrant-then-back-2.ensures ∙ quarter c.args.r (negsuc 0) 3 _ (near_signed n 63 (lit< tt)) refl refl

pub returns-then-back-3 : goal.returns-then-back-3
unfolding of_bits neg rem_euclid4 of_int round size units odd
returns-then-back-3 c =
    let n = near_mirrored 2 (c.args.r ⧄ FRAC·PI·2) c.if-back-2.false c.if-back-3.true in
    c.by_quadrant-then-back-3.ensures ∙ quarter c.args.r (negsuc 1) 2 _ (near_signed n 63 (lit< tt)) refl refl

pub returns-then-t-2 : goal.returns-then-t-2
unfolding of_bits neg rem_euclid4 of_int round size units odd
returns-then-t-2 c =
    c.by_quadrant-then-t-2.ensures ∙ quarter c.args.r (pos 1) 1 _ (near_signed (near 1 (c.args.r ⧄ FRAC·PI·2) c.if-t.false c.if-t-2.true) 63 (lit< tt)) refl refl

pub returns-then-t-3 : goal.returns-then-t-3
unfolding of_bits neg rem_euclid4 of_int round size units odd
returns-then-t-3 c =
    c.by_quadrant-then-t-3.ensures ∙ quarter c.args.r (pos 2) 2 _ (near_signed (near 2 (c.args.r ⧄ FRAC·PI·2) c.if-t-2.false c.if-t-3.true) 63 (lit< tt)) refl refl
