-- `kit_808::frames::kit_drum_808` meets its contract: the frames are those of a hit by its levels, and the state that they leave has the generator. Assumes nothing.
use Prim.Native.Nat.{◌^◌, ◌≤◌, ◌<◌}
use mathlib.Core.Path.{refl, ap, ◌∙◌}
use native.Mathlib.Omega.{arith}
use lib.ListN.{length}
use Rattle.laws.proofs.Fill.{filled_frames, filled_state}
use Rattle.blocks.proofs.Block.{filled_as}
use Rattle.kit_808.specs.Eight08.{eight08_frames}
use Rattle.kit_808.specs.declared.drums.Eight08State.{Eight08State}
use Rattle.kit_808.proofs.Draws.{eight08_draws_lem}
use Rattle.kit_808.proofs.ByLevel.{by_level}
use Rattle.kit_808.proofs.frames.kit_drum_808.Goals as goal

pub returns : goal.returns
unfolding eight08_frames
returns c =
    let p = c.args in
    let inv = filled_as (by_level p.srf _ _ _ p.drum) c.hit_frames.ensures in
    let all : length p.out.now ≤ length p.out.now = omega arith in
    let fits : p.rng.0 < 2 ^ 64 = omega arith in
    let drawn = ap (λ (s : Eight08State). s.rng.0) (filled_state inv all refl) ∙ eight08_draws_lem _ _ _ _ _ _ _ fits in
    record {
      out_after = rw (← c.one_pole_step-chi_a.ensures, ← c.one_pole_step-clo_a.ensures, ← c.one_pole_step-a6000.ensures) (filled_frames inv all (omega arith));
      result_value = drawn;
    }
