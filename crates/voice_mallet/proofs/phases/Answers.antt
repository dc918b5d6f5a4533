-- `voice_mallet::phases` meets its contract. Assumes nothing.
use native.Mathlib.Omega.{arith}
use Prim.Native.Nat.{◌+◌, ◌-◌}
use mathlib.Core.Path.{refl}
use lib.Ieee.{nan}
use Rattle.blocks.proofs.Advanced.{Advanced, advanced_none, advanced_more, advanced_rows, advanced_state}
use Rattle.dsl.specs.Pitch.{pitch_at}
use Rattle.dsl.proofs.Reach.{reaches_less}
use Rattle.osc.specs.Phase.{increment}
use Rattle.voice_mallet.specs.Block.{mallet_turns, mallet_next}
use borrow.Author.Rules.{rules}
use Rattle.voice_mallet.proofs.phases.Goals as goal

pub loop-k-init : goal.loop-k-init
loop-k-init c = advanced_none c.requires.n_bound.1

pub at-requires : goal.at-requires
at-requires c =
    reaches_less c.args.pitch _ _ _ c.requires.reaches (omega (arith, c.loop-k-test.true))

pub loop-k-preserved : goal.loop-k-preserved
unfolding mallet_turns
loop-k-preserved c =
    advanced_more c.loop-k.invariant c.loop-k-test.true (omega arith) (λ s. refl) c.store.ensures
    (rw (c.phase_step.ensures, c.at.ensures) at c.mallet_next-s.ensures)

pub returns : goal.returns
returns c =
    record {
      x_len = c.loop-k.invariant.kept;
      rows = advanced_rows c.loop-k.invariant c.loop-k-test.false;
      value = advanced_state c.loop-k.invariant c.loop-k-test.false;
    }
