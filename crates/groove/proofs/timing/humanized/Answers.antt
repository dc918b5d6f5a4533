-- `groove::timing::humanized` meets its contract. Assumes nothing.
use Rattle.std.proofs.Common.{refl, rules}
use Rattle.laws.proofs.If.{if_true, if_false}
use Rattle.groove.specs.Timing.{human_delay, human_gain}
use Rattle.groove.proofs.timing.humanized.Goals as goal

pub returns-then-humanize : goal.returns-then-humanize
unfolding human_delay human_gain
returns-then-humanize c =
    let taken = c.if-humanize.true in
    let draws = c.humanize_draws-draws.ensures in
    record {
      delay_value = if_true _ taken (rw draws);
      gain_value = if_true _ taken (rw (c.human_gain.ensures, draws));
    }

pub returns : goal.returns
unfolding human_delay human_gain
returns c =
    record {
      delay_value = if_false _ c.if-humanize.false refl;
      gain_value = if_false _ c.if-humanize.false refl;
    }
