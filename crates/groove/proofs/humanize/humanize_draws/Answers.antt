-- `groove::humanize::humanize_draws` meets its contract. Assumes nothing.
use Rattle.std.proofs.Common.{rules}
use Rattle.groove.specs.Humanize.{humanize_draws}
use Rattle.groove.proofs.humanize.humanize_draws.Goals as goal

pub returns : goal.returns
unfolding humanize_draws
returns c =
    rw (
      c.bi-gain.ensures.0,
      c.bi-timing.ensures.0,
      c.bi-timing.ensures.1,
      c.new-hr.ensures,
      c.humanize_seed.ensures,
    )
