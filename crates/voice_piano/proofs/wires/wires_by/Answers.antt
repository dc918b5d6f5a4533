-- `voice_piano::wires::wires_by` meets its contract. Assumes nothing.
use Rattle.std.proofs.Common.{◌≡◌, ◌-◌, ◌≤◌, length, arith, rules}
use Rattle.ieee.specs.Numbers.{c0}
use Rattle.laws.proofs.Sweep.{Swept, swept_none, swept_more, swept_items, swept_sum}
use Rattle.voice_piano.specs.Wires.{added, moved}
use Rattle.voice_piano.specs.Block.{no_partial}
use Rattle.voice_piano.proofs.Sines.{swept_seen}
use Rattle.voice_piano.proofs.wires.wires_by.Goals as goal

pub loop-j-init : goal.loop-j-init
loop-j-init c = (swept_none, omega arith)

pub partial_at-r-requires : goal.partial_at-r-requires
partial_at-r-requires c =
    let e = c.requires.by_index c.loop-j.j c.loop-j-test.true in
    rw (swept_seen c.loop-j.invariant.0 no_partial) e

pub loop-j-preserved : goal.loop-j-preserved
loop-j-preserved c =
    let n : length c.args.items ≡ 18 = search rules in
    (swept_more c.loop-j.invariant.0 (omega arith) _ c.partial_at-r.ensures.0 c.partial_at-r.ensures.1, omega arith)

pub returns : goal.returns
returns c = (swept_sum c.loop-j.invariant.0 c.args.count (omega arith), swept_items c.loop-j.invariant.0 c.args.count (omega arith))
