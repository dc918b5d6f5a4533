-- `kit_acoustic::frames::kit_drum_acoustic` meets its contract: the frames are those of a hit by its levels, and the state that they leave has the generator. Assumes nothing.
use Prim.Native.Nat.{◌^◌, ◌≤◌, ◌<◌}
use mathlib.Core.Path.{refl, ap, ◌∙◌}
use native.Mathlib.Omega.{arith}
use lib.ListN.{length}
use Rattle.laws.proofs.Fill.{filled_frames, filled_state}
use Rattle.blocks.proofs.Block.{filled_as}
use Rattle.kit_acoustic.specs.Acoustic.{acoustic_frames}
use Rattle.kit_acoustic.specs.declared.drums.AcousticState.{AcousticState}
use Rattle.kit_acoustic.proofs.Draws.{acoustic_draws_lem}
use Rattle.kit_acoustic.proofs.ByLevel.{by_block_level}
use Rattle.kit_acoustic.proofs.frames.kit_drum_acoustic.Goals as goal

pub returns : goal.returns
unfolding acoustic_frames
returns c =
    let p = c.args in
    let inv = filled_as (by_block_level p.drum _ p.srf) c.hit_frames.ensures in
    let all : length p.out.now ≤ length p.out.now = omega arith in
    let fits : p.rng.0 < 2 ^ 64 = omega arith in
    let drawn = ap (λ (s : AcousticState). s.rng.0) (filled_state inv all refl) ∙ acoustic_draws_lem _ _ _ _ _ fits in
    record {
      out_after = rw (← c.coefficients-k.ensures) (filled_frames inv all (omega arith));
      result_value = drawn;
    }
