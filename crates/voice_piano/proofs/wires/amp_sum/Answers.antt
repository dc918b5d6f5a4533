-- `voice_piano::wires::amp_sum` meets its contract, by the law `Folded`. Assumes nothing.
use Rattle.std.proofs.Common.{◌≡◌, ◌-◌, ◌≤◌, length, refl, arith, rules}
use lib.Ieee.{neg}
use Rattle.ieee.specs.Numbers.{c0}
use Rattle.laws.proofs.Fold.{Folded, folded_none, folded_more, folded_all}
use Rattle.voice_piano.specs.Wires.{amp_added}
use Rattle.voice_piano.proofs.wires.amp_sum.Goals as goal

pub loop-j-init : goal.loop-j-init
loop-j-init c = (folded_none, omega arith)

pub loop-j-preserved : goal.loop-j-preserved
loop-j-preserved c = let n : length c.args.items ≡ 18 = search rules in (folded_more c.loop-j.invariant.0 (omega arith) _ refl, omega arith)

pub returns : goal.returns
returns c = folded_all c.loop-j.invariant.0 c.args.count (omega arith)
