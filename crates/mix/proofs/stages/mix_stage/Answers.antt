-- `mix::stages::mix_stage` meets its contract: the loop's invariant is `Stretched`. Assumes nothing.
use Rattle.std.proofs.Common.{◌-◌, ◌≤◌, arith, rules}
use lib.Ieee.{nan}
use Rattle.ieee.specs.Numbers.{f32}
use Rattle.osc.specs.Phase.{seconds}
use Rattle.envelope.specs.Envelope.{adsr_env}
use Rattle.mix.specs.Mix.{gained_by}
use Rattle.mix.specs.Stretch.{Stretched}
use Rattle.mix.proofs.Stretching.{stretched_none, stretched_more, stretched_all}
use Rattle.mix.proofs.stages.mix_stage.Goals as goal

pub loop-i-init : goal.loop-i-init
loop-i-init c = (omega arith, c.requires.from_le_to, stretched_none)

pub frame_time-requires : goal.frame_time-requires
frame_time-requires c = record { most = omega (arith, c.requires.to_in_bounds, c.requires.frames.most) }

pub adsr_env-level-requires : goal.adsr_env-level-requires
adsr_env-level-requires c =
    rw (c.frame_time.ensures, c.nearest_u32_to_f32-srf.ensures) (c.requires.in_stage.at c.loop-i.i c.loop-i.invariant.0 (omega (arith, c.loop-i-test.true)))

pub bounds-out-i : goal.bounds-out-i
bounds-out-i c =
    omega (arith, c.loop-i.invariant.2.kept, c.requires.note_in_bounds, c.requires.to_in_bounds)

pub bounds-note-i : goal.bounds-note-i
bounds-note-i c = omega (arith, c.requires.to_in_bounds)

pub bounds-out-i-in-loop-i : goal.bounds-out-i-in-loop-i
bounds-out-i-in-loop-i c =
    omega (arith, c.loop-i.invariant.2.kept, c.requires.note_in_bounds, c.requires.to_in_bounds)

pub loop-i-preserved : goal.loop-i-preserved
loop-i-preserved c = (
  omega arith,
  omega arith,
  stretched_more c.loop-i.invariant.2 c.loop-i.invariant.0 (omega (arith, c.requires.note_in_bounds, c.requires.to_in_bounds)) (rw (
    c.gained.ensures,
    c.adsr_env-level.ensures,
    c.frame_time.ensures,
    c.nearest_u32_to_f32-srf.ensures,
  )),
)

pub shape_of-out : goal.shape_of-out
shape_of-out c = c.loop-i.invariant.2.kept

pub returns : goal.returns
returns c = stretched_all c.loop-i.invariant.2 (omega arith)
