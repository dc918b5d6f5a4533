-- `tempo::walk::walk_to` meets its contract. Assumes nothing.
use Rattle.std.proofs.Common.{◌≡◌, ◌-◌, ◌<◌, ◌≤◌, length, refl, ◌∙◌, arith}
use Rattle.tempo.specs.Map.{points}
use Rattle.tempo.proofs.Walking.{onward, walk_here, walk_more, walk_end}
use Rattle.tempo.proofs.walk.walk_to.Goals as goal

pub loop-w-init : goal.loop-w-init
loop-w-init c = refl

pub offset_bounds-map-i : goal.offset_bounds-map-i
offset_bounds-map-i c = let most : c.len-n.result ≤ 64 = c.len-n.ensures.upper_bound in record { fits = omega (arith, most) }

pub bounds-map-i : goal.bounds-map-i
bounds-map-i c = let most : c.len-n.result ≤ 64 = c.len-n.ensures.upper_bound in omega (arith, most)

pub returns-then-beat-at : goal.returns-then-beat-at
returns-then-beat-at c =
    let m = c.args.map in
    let n : c.len-n.result ≡ length (points m) = c.len-n.ensures.value in
    let lt : c.loop-w.w.next < length (points m) = omega (arith, n) in
    walk_here m _ _ _ lt c.to_f64-at.ensures c.if-beat-at.true ∙ c.loop-w.invariant

pub pass-w-requires : goal.pass-w-requires
pass-w-requires c =
    let most : c.len-n.result ≤ 64 = c.len-n.ensures.upper_bound in omega (arith, most)

pub loop-w-smaller : goal.loop-w-smaller
loop-w-smaller c = rw c.pass-w.ensures (omega arith)

pub loop-w-preserved : goal.loop-w-preserved
loop-w-preserved c =
    let m = c.args.map in
    let n : c.len-n.result ≡ length (points m) = c.len-n.ensures.value in
    let lt : c.loop-w.w.next < length (points m) = omega (arith, n) in
    walk_more m _ _ _ lt c.to_f64-at.ensures c.if-beat-at.false c.pass-w.ensures ∙ c.loop-w.invariant

pub returns : goal.returns
returns c =
    let m = c.args.map in
    let n : c.len-n.result ≡ length (points m) = c.len-n.ensures.value in
    let le : length (points m) ≤ c.loop-w.w.next = omega (arith, n) in
    walk_end m _ _ le ∙ c.loop-w.invariant
