-- `text_wave::bits::put_bits` meets its contract. Assumes nothing.
use native.Mathlib.Omega.{arith}
use Prim.Native.Nat.{ℕ, ◌-◌, ◌≤◌}
use mathlib.Core.Path.{ap, ◌∙◌}
use mathlib.Core.List.{List, ◌++◌}
use lib.ListN.{length, drop}
use Rattle.laws.proofs.Fill.{Filled, filled_none, filled_more, filled_part, filled_length}
use borrow.Author.Rules.{rules}
use Rattle.text_wave.proofs.Patterns.{pattern, all}
use Rattle.text_wave.proofs.bits.put_bits.Goals as goal

pub loop-i-init : goal.loop-i-init
loop-i-init c = (filled_none, omega arith)

pub offset_bounds-frames-i : goal.offset_bounds-frames-i
offset_bounds-frames-i c = search rules

pub bounds-frames-i : goal.bounds-frames-i
bounds-frames-i c = search rules

pub frame_bits-requires : goal.frame_bits-requires
frame_bits-requires c = tt

pub offset_bounds-bits-i : goal.offset_bounds-bits-i
offset_bounds-bits-i c = search rules

pub bounds-bits-i : goal.bounds-bits-i
bounds-bits-i c = omega (arith, filled_length c.loop-i.invariant.0, c.requires)

pub overflow_step-i : goal.overflow_step-i
overflow_step-i c = search rules

pub loop-i-smaller : goal.loop-i-smaller
loop-i-smaller c = search rules

pub loop-i-preserved : goal.loop-i-preserved
loop-i-preserved c = (filled_more c.loop-i.invariant.0 (omega arith) c.frame_bits.ensures, omega arith)

pub shape_of-bits : goal.shape_of-bits
shape_of-bits c = filled_length c.loop-i.invariant.0

pub returns : goal.returns
returns c =
    filled_part c.loop-i.invariant.0 (omega arith) ∙ ap (λ (l : List ℕ). l ++ drop (length c.args.frames.now) c.args.bits.now) (all c.args.frames.now)
