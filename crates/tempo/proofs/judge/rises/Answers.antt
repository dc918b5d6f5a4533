-- `tempo::judge::rises` meets its contract. Assumes nothing.
use Rattle.std.proofs.Common.{◌≡◌, ◌+◌, ◌-◌, ◌<◌, ◌≤◌, length, drop, refl, ◌∙◌, arith}
use borrow.Author.Tests.{not-true, not-false}
use Rattle.tempo.specs.Map.{points}
use Rattle.tempo.specs.Judge.{fine_at, chain, rises_to}
use Rattle.tempo.proofs.Judging.{each_passes_lem, fine_size, chain_more, chain_fails, chain_end}
use Rattle.tempo.proofs.judge.rises.Goals as goal

pub loop-i-init : goal.loop-i-init
loop-i-init c = (omega arith, refl)

pub overflow_sub-j : goal.overflow_sub-j
overflow_sub-j c = c.loop-i.invariant.0

pub offset_bounds-map-j : goal.offset_bounds-map-j
offset_bounds-map-j c = let most : c.len-n.result ≤ 64 = c.len-n.ensures.upper_bound in record { fits = omega (arith, most) }

pub bounds-map-j : goal.bounds-map-j
bounds-map-j c = let most : c.len-n.result ≤ 64 = c.len-n.ensures.upper_bound in omega (arith, most)

pub offset_bounds-map-i : goal.offset_bounds-map-i
offset_bounds-map-i c = let most : c.len-n.result ≤ 64 = c.len-n.ensures.upper_bound in record { fits = omega (arith, most) }

pub bounds-map-i : goal.bounds-map-i
bounds-map-i c = let most : c.len-n.result ≤ 64 = c.len-n.ensures.upper_bound in omega (arith, most)

pub lt-requires : goal.lt-requires
lt-requires c =
    let m = c.args.map in
    let n : c.len-n.result ≡ length (points m) = c.len-n.ensures.value in
    let lt : c.loop-i.i < length (points m) = omega (arith, n) in
    let least : 1 ≤ c.loop-i.i = c.loop-i.invariant.0 in
    let all = each_passes_lem fine_at m c.requires in
    (fine_size _ (all (c.loop-i.i - 1) (omega arith) _), fine_size _ (all c.loop-i.i lt _))

pub returns-then-not-lt : goal.returns-then-not-lt
returns-then-not-lt c =
    let m = c.args.map in
    let n : c.len-n.result ≡ length (points m) = c.len-n.ensures.value in
    let lt : c.loop-i.i < length (points m) = omega (arith, n) in
    chain_fails rises_to m _ c.loop-i.invariant.0 lt _ c.lt.ensures (not-true _ c.if-not-lt.true-raw) ∙ c.loop-i.invariant.1

pub overflow_step-i : goal.overflow_step-i
overflow_step-i c =
    let most : c.len-n.result ≤ 64 = c.len-n.ensures.upper_bound in record { fits = omega (arith, most) }

pub loop-i-preserved : goal.loop-i-preserved
loop-i-preserved c =
    let m = c.args.map in
    let n : c.len-n.result ≡ length (points m) = c.len-n.ensures.value in
    let lt : c.loop-i.i < length (points m) = omega (arith, n) in
    let back : c.loop-i.i + 1 - 1 ≡ c.loop-i.i = omega arith in
    (omega arith, rw back (chain_more rises_to m _ c.loop-i.invariant.0 lt _ c.lt.ensures (not-false _ c.if-not-lt.false-raw) ∙ c.loop-i.invariant.1))

pub returns : goal.returns
returns c =
    let m = c.args.map in
    let n : c.len-n.result ≡ length (points m) = c.len-n.ensures.value in
    let le : length (points m) ≤ c.loop-i.i = omega (arith, n) in
    chain_end rises_to m _ c.loop-i.invariant.0 le ∙ c.loop-i.invariant.1
