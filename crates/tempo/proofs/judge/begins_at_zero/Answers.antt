-- `tempo::judge::begins_at_zero` meets its contract. Assumes nothing.
use Rattle.std.proofs.Common.{◌≡◌, ◌<◌, length, get_or, pos, sym, ◌∙◌, arith, w64, SFits, rules}
use lib.ListN.{length-map}
use lib.Ieee.{nan}
use Rattle.tempo.specs.Map.{points}
use Rattle.tempo.proofs.Walking.{some_points}
use Rattle.tempo.proofs.Judging.{begins_none, bits_zero, begins}
use Rattle.tempo.proofs.judge.begins_at_zero.Goals as goal

pub returns-then-map-eq0 : goal.returns-then-map-eq0
returns-then-map-eq0 c = begins_none _ c.if-map-eq0.true

pub returns : goal.returns
returns c =
    let m = c.args.map in
    let k : length m.points ≡ 64 = c.well_formed.0.1.1.0.1.0.1 in
    let z : SFits w64 (get_or m.points 0 (record { at = record { num = pos 0; den = 0 }; bpm = nan })).at.num = search rules in
    let some : 0 < length (points m) = some_points m k (omega arith) in
    bits_zero _ z ∙ sym (begins m _ some)
