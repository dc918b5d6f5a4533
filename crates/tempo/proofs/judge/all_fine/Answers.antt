-- `tempo::judge::all_fine` meets its contract. Assumes nothing.
use Rattle.std.proofs.Common.{◌≡◌, ◌-◌, ◌<◌, ◌≤◌, length, drop, refl, ◌∙◌, add-one, arith}
use borrow.Author.Tests.{not-true, not-false}
use Rattle.tempo.specs.Map.{points}
use Rattle.tempo.specs.Judge.{fine_at, all_of}
use Rattle.tempo.proofs.Judging.{all_more, all_fails, all_end}
use Rattle.tempo.proofs.judge.all_fine.Goals as goal

pub loop-i-init : goal.loop-i-init
loop-i-init c = refl

pub offset_bounds-map-i : goal.offset_bounds-map-i
offset_bounds-map-i c = let most : c.len-n.result ≤ 64 = c.len-n.ensures.upper_bound in record { fits = omega (arith, most) }

pub bounds-map-i : goal.bounds-map-i
bounds-map-i c = let most : c.len-n.result ≤ 64 = c.len-n.ensures.upper_bound in omega (arith, most)

pub returns-then-not-is_fine : goal.returns-then-not-is_fine
returns-then-not-is_fine c =
    let m = c.args.map in
    let n : c.len-n.result ≡ length (points m) = c.len-n.ensures.value in
    let lt : c.loop-i.i < length (points m) = omega (arith, n) in
    all_fails fine_at m _ lt _ c.is_fine.ensures (not-true _ c.if-not-is_fine.true-raw) ∙ c.loop-i.invariant

pub overflow_step-i : goal.overflow_step-i
overflow_step-i c = let most : c.len-n.result ≤ 64 = c.len-n.ensures.upper_bound in record { fits = omega (arith, most) }

pub loop-i-preserved : goal.loop-i-preserved
loop-i-preserved c =
    let m = c.args.map in
    let n : c.len-n.result ≡ length (points m) = c.len-n.ensures.value in
    let lt : c.loop-i.i < length (points m) = omega (arith, n) in
    rw add-one (all_more fine_at m _ lt _ c.is_fine.ensures (not-false _ c.if-not-is_fine.false-raw)) ∙ c.loop-i.invariant

pub returns : goal.returns
returns c =
    let m = c.args.map in
    let n : c.len-n.result ≡ length (points m) = c.len-n.ensures.value in
    let le : length (points m) ≤ c.loop-i.i = omega (arith, n) in
    all_end fine_at m _ le ∙ c.loop-i.invariant
