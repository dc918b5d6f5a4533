-- `voice_organ::phases` meets its contract. Assumes nothing.
use native.Mathlib.Omega.{arith}
use Prim.Native.Nat.{◌+◌, ◌-◌}
use mathlib.Core.Path.{◌≡◌, refl, ap, ◌∙◌}
use lib.ListN.{length, length-set}
use lib.Ieee.{nan}
use Rattle.blocks.specs.Stored.{written}
use Rattle.blocks.proofs.Block.{Tabled, tabled_none, tabled_next, tabled_all}
use Rattle.blocks.proofs.Rows.{written_length}
use Rattle.blocks.proofs.Advanced.{Advanced, advanced_none, advanced_more, advanced_rows, advanced_state}
use Rattle.dsl.specs.Pitch.{pitch_at}
use Rattle.dsl.proofs.Reach.{reaches_less}
use Rattle.voice_organ.specs.Block.{organ_turns, organ_sixth_turn, organ_next, organ_reached}
use borrow.Author.Rules.{rules}
use Rattle.voice_organ.proofs.phases.Goals as goal

pub loop-k-init : goal.loop-k-init
loop-k-init c = (advanced_none c.requires.n_bound.1, c.requires.n_bound.2, tabled_none)

pub bounds-y-k : goal.bounds-y-k
bounds-y-k c =
    omega (arith, c.loop-k-test.true, c.requires.n_bound.0, c.loop-k.invariant.1)

pub at-requires : goal.at-requires
at-requires c =
    reaches_less c.args.pitch _ _ _ c.requires.reaches (omega (arith, c.loop-k-test.true))

pub loop-k-preserved : goal.loop-k-preserved
unfolding organ_turns
loop-k-preserved c =
    let v = c.loop-k.invariant in
    let l = c.loop-k-test.true in (
      advanced_more v.0 l (omega (arith, c.requires.n_bound.0)) (λ s. refl) c.store.ensures (rw c.at.ensures at c.organ_next-s.ensures),
      rw length-set v.1,
      tabled_next v.2 (omega (arith, l, v.1, c.requires.n_bound.0)) (ap organ_sixth_turn v.0.is),
    )

pub returns : goal.returns
returns c =
    let v = c.loop-k.invariant in
    let l = c.loop-k-test.false in
    record {
      x_len = (v.0.kept, v.1);
      rows = advanced_rows v.0 l;
      tabled = tabled_all v.2 (omega (arith, v.0.within));
      value = advanced_state v.0 l;
    }
