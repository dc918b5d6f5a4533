-- `voice_piano::hammer::piano_partials` meets its contract, by the laws of `Built`. Assumes nothing.
use Rattle.std.proofs.Common.{◌≡◌, ◌∙◌, take, refl, sym, ap, arith}
use Rattle.voice_piano.proofs.Built.{Built, built_none, built_here, built_more, built_all}
use Rattle.voice_piano.proofs.hammer.piano_partials.Goals as goal

pub loop-j-init : goal.loop-j-init
loop-j-init c = built_none _ refl

pub returns-then-ratio-b : goal.returns-then-ratio-b
returns-then-ratio-b c =
    let inv = c.loop-j.invariant in
    (inv.within, built_here inv (omega arith) (rw c.ratio_of-ratio.ensures at c.if-ratio-b.true))

pub bounds-items-j : goal.bounds-items-j
bounds-items-j c = omega (arith, c.loop-j.invariant.room)

pub loop-j-preserved : goal.loop-j-preserved
loop-j-preserved c =
    let ratio = c.ratio_of-ratio.ensures in
    built_more c.loop-j.invariant (omega arith) (rw ratio at c.if-ratio-b.false) (rw ratio at c.partial_of-p.ensures)

pub returns : goal.returns
returns c =
    let all : c.loop-j.j ≡ 18 = omega (arith, c.loop-j.invariant.within) in
    (omega arith, ap (λ n. take n c.loop-j.items) (sym all) ∙ built_all c.loop-j.invariant (omega arith))
