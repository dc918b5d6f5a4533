-- `voice_flute::states` meets its contract: its loop keeps the turns and the breath by the law `PairTabled`. Assumes nothing.
use native.Mathlib.Omega.{arith}
use Prim.Native.Nat.{◌+◌, ◌-◌}
use lib.Ieee.{nan}
use Rattle.blocks.proofs.Block.{tabled_frame}
use Rattle.ieee.specs.Numbers.{c0·15}
use Rattle.ieee.specs.Binary32.{◌⊗◌}
use Rattle.dsp.specs.Kernels.{TAU}
use Rattle.dsl.specs.Pitch.{pitch_at}
use Rattle.dsl.proofs.Reach.{reaches_less}
use Rattle.frame_block.specs.Decay.{decay_at}
use Rattle.voice_flute.specs.Block.{flute_next}
use Rattle.voice_flute.proofs.Flute.{PairTabled, pair_none, pair_more, pair_first, pair_second, pair_state}
use borrow.Author.Rules.{rules}
use Rattle.voice_flute.proofs.states.Goals as goal

pub loop-k-init : goal.loop-k-init
loop-k-init c = pair_none c.requires.n_bound.1 c.requires.n_bound.2

pub at-requires : goal.at-requires
at-requires c = reaches_less c.args.pitch _ _ _ c.requires.reaches (omega (arith, c.loop-k-test.true))

pub bounds-x-k : goal.bounds-x-k
bounds-x-k c =
    omega (arith, c.loop-k.invariant.long, c.loop-k-test.true, c.requires.n_bound.0)

pub bounds-b-k : goal.bounds-b-k
bounds-b-k c =
    omega (arith, c.loop-k.invariant.short, c.loop-k-test.true, c.requires.n_bound.0)

pub overflow_step-k : goal.overflow_step-k
overflow_step-k c = omega (arith, c.loop-k-test.true, c.requires.n_bound.0)

pub loop-k-preserved : goal.loop-k-preserved
loop-k-preserved c =
    let l = c.loop-k-test.true in
    let moved = rw (c.at.ensures, tabled_frame c.requires.tabled c.loop-k.k (omega (arith, l))) at c.flute_next-next.ensures in
    pair_more c.loop-k.invariant l (omega (arith, c.requires.n_bound.0)) c.requires.n_bound.0 moved

pub returns : goal.returns
returns c =
    let v = c.loop-k.invariant in
    let l = c.loop-k-test.false in
    record {
      x_len = (v.long, v.short);
      tabled_2 = pair_first v l;
      tabled_3 = pair_second v l;
      value = pair_state v l;
    }
