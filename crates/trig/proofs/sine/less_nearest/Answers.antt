-- `trig::sine::less_nearest` meets its contract. Assumes nothing.
use Rattle.std.proofs.Common.{ap, ◌∙◌, lit<, rules}
use denote.Floats.{passes}
use lib.Ieee.{binary64, of_bits, neg, odd, size}
use Rattle.ieee.proofs.Between.{near, near_mirrored, near_is}
use Rattle.trig.specs.Trig.{less_turns}
use Rattle.trig.proofs.sine.less_nearest.Goals as goal

pub returns-then-t-2 : goal.returns-then-t-2
unfolding of_bits odd size
returns-then-t-2 c =
    c.less_turns.ensures
    ∙ ap (less_turns c.args.x) (near_is (near 0 c.args.t c.if-t-2.true c.if-t.true) binary64 (passes _ c.well_formed.1.0.1) (lit< tt))

pub returns-then-back-2 : goal.returns-then-back-2
unfolding of_bits neg odd size
returns-then-back-2 c =
    c.less_turns-then-back-2.ensures
    ∙ ap (less_turns c.args.x) (near_is (near_mirrored 0 c.args.t c.if-back.true c.if-back-2.true) binary64 (passes _ c.well_formed.1.0.1) (lit< tt))

pub returns-then-back-3 : goal.returns-then-back-3
unfolding of_bits neg odd size
returns-then-back-3 c =
    c.less_turns-then-back-3.ensures
    ∙ ap (less_turns c.args.x) (near_is (near_mirrored 1 c.args.t c.if-back-2.false c.if-back-3.true) binary64 (passes _ c.well_formed.1.0.1) (lit< tt))

pub returns-then-t : goal.returns-then-t
returns-then-t c = c.less_rounded.ensures

pub returns-then-t-3 : goal.returns-then-t-3
unfolding of_bits neg odd size
returns-then-t-3 c =
    c.less_turns-then-t-3.ensures
    ∙ ap (less_turns c.args.x) (near_is (near 1 c.args.t c.if-t.false c.if-t-3.true) binary64 (passes _ c.well_formed.1.0.1) (lit< tt))

pub returns : goal.returns
returns c = c.less_rounded-2.ensures
