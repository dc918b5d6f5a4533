-- `float::whole_f32::floor_f32` meets its contract, one law for each way out. Assumes nothing.
use denote.Floats.{passes}
use Rattle.std.proofs.Common.{ap, ◌∙◌}
use lib.Ieee.{binary32, of_bits, neg}
use Rattle.ieee.specs.Whole.{cut, raised}
use Rattle.float.proofs.Signs.{neg_whole, large, large_negative, neither, floor_above, floor_below, floor_neither}
use Rattle.float.proofs.whole_f32.floor_f32.Goals as goal

pub cut_f32-requires : goal.cut_f32-requires
unfolding of_bits
cut_f32-requires c = record { positive = c.if-x.true; below = c.if-x-2.true }

pub returns-then-x-2 : goal.returns-then-x-2
unfolding of_bits
returns-then-x-2 c = floor_above c.args.x c.cut_f32.result c.if-x.true c.cut_f32.ensures

pub returns-then-x : goal.returns-then-x
unfolding of_bits
returns-then-x c =
    floor_above c.args.x c.args.x c.if-x.true (large binary32 cut c.args.x (passes _ c.well_formed.0.1) c.if-x.true c.if-x-2.false)

pub raised_f32-requires : goal.raised_f32-requires
unfolding of_bits
raised_f32-requires c = record { positive = c.if-a.true; below = c.if-a-2.true }

pub returns-then-a-2 : goal.returns-then-a-2
unfolding of_bits
returns-then-a-2 c =
    let x = c.args.x in
    floor_below x (neg c.raised_f32.result) c.if-a.true (ap neg c.raised_f32.ensures ∙ neg_whole raised x)

pub returns-then-a : goal.returns-then-a
unfolding of_bits
returns-then-a c =
    floor_below c.args.x c.args.x c.if-a.true (large_negative binary32 raised c.args.x (passes _ c.well_formed.0.1) c.if-a.true c.if-a-2.false)

pub returns : goal.returns
unfolding of_bits
returns c =
    let fit = passes _ c.well_formed.0.1 in
    floor_neither c.args.x (neither binary32 cut c.args.x fit c.if-x.false c.if-a.false) (neither binary32 raised c.args.x fit c.if-x.false c.if-a.false)
