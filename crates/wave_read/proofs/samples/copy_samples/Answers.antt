-- `wave_read::samples::copy_samples` meets its contract. Assumes nothing.
use native.Mathlib.Omega.{arith}
use mathlib.Core.Path.{ap, ◌∙◌}
use mathlib.Core.List.{List, ◌++◌}
use Prim.Native.Nat.{ℕ}
use lib.ListN.{drop}
use Rattle.laws.proofs.Fill.{filled_none, filled_more, filled_part, filled_length}
use Rattle.wave_read.proofs.Bits.{copied}
use Rattle.wave_read.proofs.samples.copy_samples.Goals as goal

pub loop-i-init : goal.loop-i-init
loop-i-init c = filled_none

pub offset_bounds-samples-i : goal.offset_bounds-samples-i
offset_bounds-samples-i c = omega (arith, c.requires.count_in_bounds)

pub bounds-samples-i : goal.bounds-samples-i
bounds-samples-i c = omega (arith, filled_length c.loop-i.invariant)

pub loop-i-preserved : goal.loop-i-preserved
loop-i-preserved c = filled_more c.loop-i.invariant (omega arith) c.u32_at.ensures

pub shape_of-samples : goal.shape_of-samples
shape_of-samples c = filled_length c.loop-i.invariant

pub returns : goal.returns
returns c =
    filled_part c.loop-i.invariant (omega arith)
    ∙ ap (λ (l : List ℕ). l ++ drop c.args.count c.args.samples.now) (copied c.args.file.now c.args.start c.args.count)
