-- `beat::beat::divided` meets its contract. Assumes nothing.
use Rattle.std.proofs.Common.{◌<◌, ◌≤◌, nat_abs, refl, ap, ◌∙◌, div-le_self, arith, to_z-of_z, w64, SFits, rules}
use native.Mathlib.Nat.{le_of_dvd, pos_of_dvd_of_pos}
use mir.Facts.{to_z_pos}
use Rattle.beat.proofs.Quotient.{quot_fits}
use Rattle.beat.proofs.Lowest.{reduced_by}
use Rattle.beat.proofs.beat.divided.Goals as goal

pub overflow_cast-top : goal.overflow_cast-top
overflow_cast-top c =
    let g = c.gcd-g.result in
    let den : 0 < c.args.den = omega arith in
    let least : 0 < g = pos_of_dvd_of_pos c.gcd-g.ensures.right den in
    let most : g ≤ c.args.den = le_of_dvd den c.gcd-g.ensures.right in
    let fit : SFits w64 c.args.num = search rules in
    record { sfits = omega arith }

pub nonzero_div-top : goal.nonzero_div-top
nonzero_div-top c =
    let g = c.gcd-g.result in
    let den : 0 < c.args.den = omega arith in
    let least : 0 < g = pos_of_dvd_of_pos c.gcd-g.ensures.right den in
    let most : g ≤ c.args.den = le_of_dvd den c.gcd-g.ensures.right in
    let fit : SFits w64 c.args.num = search rules in
    (least, rw (to_z-of_z fit, to_z_pos w64 {n = g} (omega arith)) (quot_fits c.args.num g c.requires.num_bound))

pub nonzero_div-bottom : goal.nonzero_div-bottom
nonzero_div-bottom c =
    let g = c.gcd-g.result in
    let den : 0 < c.args.den = omega arith in
    let least : 0 < g = pos_of_dvd_of_pos c.gcd-g.ensures.right den in
    let most : g ≤ c.args.den = le_of_dvd den c.gcd-g.ensures.right in
    let fit : SFits w64 c.args.num = search rules in
    least

pub overflow_cast-result : goal.overflow_cast-result
overflow_cast-result c =
    let g = c.gcd-g.result in
    let den : 0 < c.args.den = omega arith in
    let least : 0 < g = pos_of_dvd_of_pos c.gcd-g.ensures.right den in
    let most : g ≤ c.args.den = le_of_dvd den c.gcd-g.ensures.right in
    let fit : SFits w64 c.args.num = search rules in
    record { fits = omega (arith, div-le_self c.args.den g) }

pub returns : goal.returns
returns c =
    let g = c.gcd-g.result in
    let den : 0 < c.args.den = omega arith in
    let most : g ≤ c.args.den = le_of_dvd den c.gcd-g.ensures.right in
    let fit : SFits w64 c.args.num = search rules in
    reduced_by c.args.num c.args.den g (rw (c.unsigned_abs.ensures.value ∙ ap nat_abs (to_z-of_z fit)) at c.gcd-g.ensures) den _
    (rw (to_z-of_z fit, to_z_pos w64 {n = g} (omega arith)) (to_z-of_z (quot_fits c.args.num g c.requires.num_bound))) refl
