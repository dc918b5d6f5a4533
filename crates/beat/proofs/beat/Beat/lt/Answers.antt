-- `beat::beat::Beat::lt` meets its contract. Assumes nothing.
use Rattle.std.proofs.Common.{◌<◌, arith, w64, SFits, rules}
use Rattle.beat.specs.Beat.{lt_beat}
use Rattle.beat.proofs.Quotient.{cross, cross_fits}
use Rattle.beat.proofs.beat.Beat.lt.Goals as goal

pub overflow_mul-left : goal.overflow_mul-left
overflow_mul-left c =
    let s : SFits w64 c.args.self.num = search rules in
    let k : c.args.other.den < 4294967296 = omega arith in
    cross_fits c.args.self.num c.args.other.den s c.requires.0 k

pub overflow_mul-right : goal.overflow_mul-right
overflow_mul-right c =
    let s : SFits w64 c.args.other.num = search rules in
    let k : c.args.self.den < 4294967296 = omega arith in
    cross_fits c.args.other.num c.args.self.den s c.requires.1 k

pub returns : goal.returns
unfolding lt_beat
returns c =
    let a = c.args.self in
    let b = c.args.other in
    let s : SFits w64 a.num = search rules in
    let t : SFits w64 b.num = search rules in
    let j : a.den < 4294967296 = omega arith in
    let k : b.den < 4294967296 = omega arith in
    rw (cross a.num b.den s c.requires.0 k, cross b.num a.den t c.requires.1 j)
