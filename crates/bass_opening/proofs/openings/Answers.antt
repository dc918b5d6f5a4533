-- `bass_opening::openings` meets its contract. Assumes nothing.
use mathlib.Core.Path.{ap, ◌∙◌}
use Prim.Native.Nat.{ℕ, ◌+◌, ◌-◌, ◌≤◌, ◌<◌}
use native.Mathlib.Omega.{arith}
use Rattle.blocks.proofs.Block.{tabled_from, tabled_place}
use lib.Ieee.{Float, nan}
use lib.ListN.{get_or}
use Rattle.frame_block.specs.Decay.{decay_at}
use Rattle.opening_block.specs.Opened.{opened_by}
use Rattle.bass_opening.specs.Cutoff.{bass_argument_by, bass_opening_at}
use borrow.Author.Rules.{rules}
use Rattle.bass_opening.proofs.openings.Goals as goal

near : (k from end : ℕ) → end ≤ from + 64 → from ≤ k → k < end → k - from < 64
near k from end e h l = omega arith

pub returns : goal.returns
unfolding bass_opening_at
returns c =
    let p = c.args in
    let by = c.table.ensures (λ k. bass_argument_by p.bass p.gain p.srf (get_or c.decays_before.new.a k nan) (get_or c.decays_before-2.new.a k nan))
    (λ i x ge lt q. search rules) in
    let made = c.openings.ensures in (
      made.0,
      tabled_from (bass_opening_at p.bass p.gain p.srf) p.from p.end made.1 c.requires.from_le_end.1
          (λ k h l. ap opened_by (tabled_place by.1 (k - p.from) (near k p.from p.end c.requires.from_le_end.1 h l)
          ∙ (λ j. bass_argument_by p.bass p.gain p.srf
          ((c.decays_before.ensures.1.at k h l ∙ ap (λ (d : Float). decay_at p.srf d k) c.max_f32-decay.ensures) j)
          (c.decays_before-2.ensures.1.at k h l j)))),
    )
