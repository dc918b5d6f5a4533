-- `envelope::stage_end` meets its contract: the loop's invariant is `Searched`. Assumes nothing.
use Rattle.std.proofs.Common.{◌-◌, arith, rules}
use Rattle.envelope.proofs.Parting.{Searched, searched_none, searched_up, searched_down, searched_all}
use Rattle.envelope.proofs.stage_end.Goals as goal

pub loop-low-init : goal.loop-low-init
loop-low-init c = searched_none c.requires.from_le_n

pub overflow_add-middle : goal.overflow_add-middle
overflow_add-middle c = record { fits = omega (arith, c.loop-low.invariant.most) }

pub frame_time-requires : goal.frame_time-requires
frame_time-requires c = record { most = omega (arith, c.loop-low.invariant.most, c.requires.frames.most) }

pub overflow_add-low : goal.overflow_add-low
overflow_add-low c = record { fits = omega (arith, c.loop-low.invariant.most) }

pub loop-low-preserved-then-frame_time-end : goal.loop-low-preserved-then-frame_time-end
loop-low-preserved-then-frame_time-end c =
    searched_up c.requires.rate c.requires.frames c.loop-low.invariant _ (omega arith) (omega arith) (rw (
      c.frame_time.ensures,
      c.nearest_u32_to_f32-srf.ensures,
    ) at c.if-frame_time-end.true)

pub loop-low-preserved : goal.loop-low-preserved
loop-low-preserved c =
    searched_down c.requires.rate c.requires.frames c.loop-low.invariant _ (omega arith) (omega arith) (rw (
      c.frame_time.ensures,
      c.nearest_u32_to_f32-srf.ensures,
    ) at c.if-frame_time-end.false)

pub returns : goal.returns
returns c = searched_all c.loop-low.invariant c.loop-low-test.false
