-- `float::whole_f32::trunc_f32` meets its contract, one law for each way out. Assumes nothing.
use Rattle.std.proofs.Common.{ap, ◌∙◌, rules}
use denote.Floats.{passes}
use lib.Ieee.{binary32, of_bits, neg}
use Rattle.ieee.specs.Whole.{cut}
use Rattle.float.proofs.Signs.{neg_whole, large, large_negative, neither}
use Rattle.float.proofs.whole_f32.trunc_f32.Goals as goal

pub cut_f32-requires : goal.cut_f32-requires
unfolding of_bits
cut_f32-requires c = record { positive = c.if-x.true; below = c.if-x-2.true }

pub returns-then-x : goal.returns-then-x
unfolding of_bits
returns-then-x c = large binary32 cut c.args.x (passes _ c.well_formed.0.1) c.if-x.true c.if-x-2.false

pub cut_f32-requires-then-a-2 : goal.cut_f32-requires-then-a-2
unfolding of_bits
cut_f32-requires-then-a-2 c = record { positive = c.if-a.true; below = c.if-a-2.true }

pub returns-then-a-2 : goal.returns-then-a-2
returns-then-a-2 c = ap neg c.cut_f32-then-a-2.ensures ∙ neg_whole cut c.args.x

pub returns-then-a : goal.returns-then-a
unfolding of_bits
returns-then-a c = large_negative binary32 cut c.args.x (passes _ c.well_formed.0.1) c.if-a.true c.if-a-2.false

pub returns : goal.returns
unfolding of_bits
returns c = neither binary32 cut c.args.x (passes _ c.well_formed.0.1) c.if-x.false c.if-a.false
