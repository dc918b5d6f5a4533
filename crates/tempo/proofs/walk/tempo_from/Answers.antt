-- `tempo::walk::tempo_from` meets its contract. Assumes nothing.
use Rattle.std.proofs.Common.{◌≡◌, ◌-◌, ◌<◌, ◌≤◌, length, refl, ◌∙◌, add-one, arith}
use Rattle.tempo.specs.Map.{points}
use Rattle.tempo.proofs.Walking.{onward_tempo, tempo_here, tempo_more, tempo_end}
use Rattle.tempo.proofs.walk.tempo_from.Goals as goal

pub loop-i-init : goal.loop-i-init
loop-i-init c = refl

pub offset_bounds-map-i : goal.offset_bounds-map-i
offset_bounds-map-i c = let most : c.len-n.result ≤ 64 = c.len-n.ensures.upper_bound in record { fits = omega (arith, most) }

pub bounds-map-i : goal.bounds-map-i
bounds-map-i c = let most : c.len-n.result ≤ 64 = c.len-n.ensures.upper_bound in omega (arith, most)

pub returns-then-beat-to_f64 : goal.returns-then-beat-to_f64
returns-then-beat-to_f64 c =
    let m = c.args.map in
    let n : c.len-n.result ≡ length (points m) = c.len-n.ensures.value in
    let lt : c.loop-i.i < length (points m) = omega (arith, n) in
    tempo_here m _ _ _ _ lt c.to_f64.ensures c.if-beat-to_f64.true ∙ c.loop-i.invariant

pub overflow_step-i : goal.overflow_step-i
overflow_step-i c =
    let most : c.len-n.result ≤ 64 = c.len-n.ensures.upper_bound in record { fits = omega (arith, most) }

pub loop-i-preserved : goal.loop-i-preserved
loop-i-preserved c =
    let m = c.args.map in
    let n : c.len-n.result ≡ length (points m) = c.len-n.ensures.value in
    let lt : c.loop-i.i < length (points m) = omega (arith, n) in
    rw add-one (tempo_more m _ _ _ _ lt c.to_f64.ensures c.if-beat-to_f64.false c.floor_bpm-bpm.ensures) ∙ c.loop-i.invariant

pub returns : goal.returns
returns c =
    let m = c.args.map in
    let n : c.len-n.result ≡ length (points m) = c.len-n.ensures.value in
    let le : length (points m) ≤ c.loop-i.i = omega (arith, n) in
    tempo_end m _ _ _ le ∙ c.loop-i.invariant
