-- `kit_classic::frames::kit_drum_classic` meets its contract: the frames are those of a hit by its levels, and the state that they leave has the generator. Assumes nothing.
use Prim.Native.Nat.{◌^◌, ◌≤◌, ◌<◌}
use mathlib.Core.Path.{refl, ap, ◌∙◌}
use native.Mathlib.Omega.{arith}
use lib.ListN.{length}
use Rattle.laws.proofs.Fill.{filled_frames, filled_state}
use Rattle.blocks.proofs.Block.{filled_as}
use Rattle.kit_classic.specs.Classic.{classic_frames}
use Rattle.kit_classic.specs.declared.drums.ClassicState.{ClassicState}
use Rattle.kit_classic.proofs.Draws.{classic_draws_lem}
use Rattle.kit_classic.proofs.ByLevel.{by_block_level}
use Rattle.kit_classic.proofs.frames.kit_drum_classic.Goals as goal

pub returns : goal.returns
unfolding classic_frames
returns c =
    let p = c.args in
    let inv = filled_as (by_block_level p.drum p.srf _) c.hit_frames.ensures in
    let all : length p.out.now ≤ length p.out.now = omega arith in
    let fits : p.rng.0 < 2 ^ 64 = omega arith in
    let drawn = ap (λ (s : ClassicState). s.rng.0) (filled_state inv all refl) ∙ classic_draws_lem _ _ _ _ _ fits in
    record {
      out_after = rw (← c.one_pole_step-hp_a.ensures) (filled_frames inv all (omega arith));
      result_value = drawn;
    }
