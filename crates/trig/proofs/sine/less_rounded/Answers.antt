-- `trig::sine::less_rounded` meets its contract. Assumes nothing.
use Rattle.std.proofs.Common.{ap, ◌∙◌, rules}
use Rattle.float.proofs.Signs.{near_whole}
use Rattle.trig.specs.Trig.{less_turns}
use Rattle.trig.proofs.sine.less_rounded.Goals as goal

pub returns-in-Some : goal.returns-in-Some
returns-in-Some c =
    c.less_turns.ensures ∙ ap (less_turns c.args.x) (near_whole c.args.t c.near_f64.result _ c.near_f64.ensures c.in-Some.is)

pub returns : goal.returns
returns c = rw (c.less_turns-2.ensures, c.round_f64.ensures)
