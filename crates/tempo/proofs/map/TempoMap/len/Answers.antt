-- `tempo::map::TempoMap::len` meets its contract. Assumes nothing.
use Rattle.std.proofs.Common.{◌≡◌, length, arith, rules}
use lib.ListN.{length-map}
use Rattle.tempo.proofs.Walking.{count_whole, count_is}
use Rattle.tempo.proofs.map.TempoMap.len.Goals as goal

pub returns-then-self-gt64 : goal.returns-then-self-gt64
returns-then-self-gt64 c =
    let m = c.args.self in
    let k : length m.points ≡ 64 = c.well_formed.0.1.1.0.1.0.1 in
    record {
      value = count_whole m k (omega arith);
      upper_bound = omega arith;
    }

pub returns : goal.returns
returns c =
    let m = c.args.self in
    let k : length m.points ≡ 64 = c.well_formed.0.1.1.0.1.0.1 in
    record {
      value = count_is m k (omega arith);
      upper_bound = omega arith;
    }
