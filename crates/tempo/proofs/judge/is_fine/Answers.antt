-- `tempo::judge::is_fine` meets its contract. Assumes nothing.
use Rattle.std.proofs.Common.{refl, to_z-of_z, w64, SFits, rules, eq-eqb, ne_eqb}
use Rattle.laws.proofs.If.{if_true, if_false}
use Rattle.tempo.specs.Judge.{fine_at}
use Rattle.tempo.proofs.Judging.{size_above, size_below, size_within}
use Rattle.tempo.proofs.judge.is_fine.Goals as goal

pub returns-then-at-eq0 : goal.returns-then-at-eq0
unfolding fine_at
returns-then-at-eq0 c = if_true _ (eq-eqb _ _ c.if-at-eq0.true) refl

pub returns-then-num-gt1000000000 : goal.returns-then-num-gt1000000000
unfolding fine_at
returns-then-num-gt1000000000 c =
    let z = c.args.p.at.num in
    let s : SFits w64 z = search rules in
    if_false _ (ne_eqb _ _ c.if-at-eq0.false) (if_true _ (size_above z (rw (to_z-of_z s) at c.if-num-gt1000000000.true)) refl)

pub returns-then-num-ltminus1000000000 : goal.returns-then-num-ltminus1000000000
unfolding fine_at
returns-then-num-ltminus1000000000 c =
    let z = c.args.p.at.num in
    let s : SFits w64 z = search rules in
    if_false _ (ne_eqb _ _ c.if-at-eq0.false) (if_true _ (size_below z (rw (to_z-of_z s) at c.if-num-ltminus1000000000.true)) refl)

pub returns : goal.returns
unfolding fine_at
returns c =
    let z = c.args.p.at.num in
    let s : SFits w64 z = search rules in
    if_false _ (ne_eqb _ _ c.if-at-eq0.false)
    (if_false _ (size_within z (rw (to_z-of_z s) at c.if-num-gt1000000000.false) (rw (to_z-of_z s) at c.if-num-ltminus1000000000.false)) c.within_f32.ensures)
