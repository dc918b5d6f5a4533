-- `voice_noise::noise` meets its contract: the loop fills `out` by the law `Filled`. Assumes nothing.
use Prim.Native.Nat.{ℕ, ◌-◌}
use mathlib.Core.Path.{◌∙◌}
use native.Mathlib.Omega.{arith}
use borrow.Author.Rules.{rules}
use lib.ListN.{length}
use Rattle.laws.proofs.Fill.{Filled, filled_none, filled_length, filled_more_parts, filled_frames, filled_state}
use Rattle.rng.specs.SplitMix64.{advance}
use Rattle.rng.specs.Draw.{bi_from}
use Rattle.voice_noise.specs.Noise.{noise_frames}
use Rattle.voice_noise.proofs.Draws.{noise_draws}
use Rattle.voice_noise.proofs.noise.Goals as goal

pub loop-i-init : goal.loop-i-init
loop-i-init c = filled_none

pub bounds-out-i : goal.bounds-out-i
bounds-out-i c = omega (arith, filled_length c.loop-i.invariant)

pub loop-i-smaller : goal.loop-i-smaller
loop-i-smaller c = omega (arith, filled_length c.loop-i.invariant)

pub loop-i-preserved : goal.loop-i-preserved
loop-i-preserved c = filled_more_parts c.loop-i.invariant (omega (arith, filled_length c.loop-i.invariant)) c.bi-d.ensures.0 c.bi-d.ensures.1

pub shape_of-out : goal.shape_of-out
shape_of-out c = filled_length c.loop-i.invariant

pub returns : goal.returns
unfolding noise_frames
returns c =
    let inv = c.loop-i.invariant in
    record {
      out_after = filled_frames inv (omega (arith, filled_length inv)) (omega arith);
      result_value = filled_state inv (omega (arith, filled_length inv)) (omega arith) ∙ noise_draws _ _ (omega arith);
    }
