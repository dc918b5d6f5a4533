-- `tempo::walk::walk_both` meets its contract. Assumes nothing.
use Rattle.std.proofs.Common.{◌≡◌, ◌-◌, ◌<◌, ◌≤◌, length, arith}
use Rattle.tempo.specs.Map.{points}
use Rattle.tempo.specs.Shared.{Shared}
use Rattle.tempo.proofs.Walking.{shared_start, shared_more}
use Rattle.tempo.proofs.walk.walk_both.Goals as goal

pub begin-w-requires : goal.begin-w-requires
begin-w-requires c = c.requires

pub loop-w-init : goal.loop-w-init
loop-w-init c = shared_start _ _ _ c.begin-w.ensures

pub offset_bounds-map-i : goal.offset_bounds-map-i
offset_bounds-map-i c = let most : c.len-n.result ≤ 64 = c.len-n.ensures.upper_bound in record { fits = omega (arith, most) }

pub bounds-map-i : goal.bounds-map-i
bounds-map-i c = let most : c.len-n.result ≤ 64 = c.len-n.ensures.upper_bound in omega (arith, most)

pub returns-then-from-at : goal.returns-then-from-at
returns-then-from-at c = c.loop-w.invariant

pub returns-then-to-at : goal.returns-then-to-at
returns-then-to-at c = c.loop-w.invariant

pub pass-w-requires : goal.pass-w-requires
pass-w-requires c =
    let most : c.len-n.result ≤ 64 = c.len-n.ensures.upper_bound in omega (arith, most)

pub loop-w-smaller : goal.loop-w-smaller
loop-w-smaller c = rw c.pass-w.ensures (omega arith)

pub loop-w-preserved : goal.loop-w-preserved
loop-w-preserved c =
    let m = c.args.map in
    let n : c.len-n.result ≡ length (points m) = c.len-n.ensures.value in
    let lt : c.loop-w.w.next < length (points m) = omega (arith, n) in
    shared_more m _ _ c.loop-w.invariant _ lt c.to_f64-at.ensures c.if-from-at.false c.if-to-at.false c.pass-w.ensures

pub returns : goal.returns
returns c = c.loop-w.invariant
