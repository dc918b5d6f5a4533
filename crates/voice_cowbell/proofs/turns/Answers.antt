-- `voice_cowbell::turns` meets its contract. Assumes nothing.
use native.Mathlib.Omega.{arith}
use Prim.Native.Nat.{◌+◌, ◌-◌, ◌*◌, ◌≤◌}
use mathlib.Core.Path.{◌≡◌, refl, ap, ◌∙◌}
use lib.ListN.{length}
use lib.Ieee.{nan}
use Rattle.blocks.proofs.Rows.{Rows, rows_none, rows_more, rows_all, written_length}
use Rattle.dsl.specs.Pitch.{pitch_at}
use Rattle.dsl.proofs.Reach.{reaches_less}
use Rattle.voice_cowbell.specs.Block.{cowbell_turns}
use borrow.Author.Rules.{rules}
use Rattle.voice_cowbell.proofs.turns.Goals as goal

pub loop-k-init : goal.loop-k-init
loop-k-init c = (omega arith, c.requires.n_bound.1, rows_none)

pub at-requires : goal.at-requires
at-requires c = reaches_less c.args.pitch _ _ _ c.requires.reaches (omega (arith, c.loop-k-test.true))

pub frame_time-t-requires : goal.frame_time-t-requires
frame_time-t-requires c = record { most = omega (arith, c.loop-k-test.true, c.requires.reaches.few) }

pub loop-k-preserved : goal.loop-k-preserved
unfolding cowbell_turns
loop-k-preserved c =
    let v = c.loop-k.invariant in
    let l = c.loop-k-test.true in
    let e = rw (c.frame_time-t.ensures, c.max_f32-f.ensures, c.at.ensures) at c.store.ensures in
    (omega arith, ap length e ∙ written_length c.loop-k.x (c.loop-k.k * 2) _ ∙ v.1, rows_more v.2 refl (omega (arith, v.1, c.requires.n_bound.0)) refl e)

pub returns : goal.returns
returns c =
    record {
      x_len = c.loop-k.invariant.1;
      rows = rows_all c.loop-k.invariant.2 (omega (arith, c.loop-k.invariant.0, c.loop-k-test.false));
    }
