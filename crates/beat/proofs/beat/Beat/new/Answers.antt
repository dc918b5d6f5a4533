-- `beat::beat::Beat::new` meets its contract. Assumes nothing.
use Rattle.std.proofs.Common.{◌≡◌, max, arith, to_z-of_z, w64, SFits, rules}
use Rattle.beat.proofs.beat.Beat.new.Goals as goal

pub returns-then-den-eq0 : goal.returns-then-den-eq0
returns-then-den-eq0 c =
    let z : max c.args.den 1 ≡ 1 = omega arith in
    let fit : SFits w64 c.args.num = search rules in
    rw z (rw (to_z-of_z fit) at c.divided.ensures)

pub returns : goal.returns
returns c =
    let z : max c.args.den 1 ≡ c.args.den = omega arith in
    let fit : SFits w64 c.args.num = search rules in
    rw z (rw (to_z-of_z fit) at c.divided-2.ensures)
