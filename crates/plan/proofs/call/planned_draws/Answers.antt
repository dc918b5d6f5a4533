-- `plan::call::planned_draws` meets its contract. Assumes nothing.
use mathlib.Core.Path.{refl, sym, ◌∙◌}
use Rattle.plan.proofs.Ways.{no_station_lem, on_station_lem}
use borrow.Author.Rules.{rules}
use Rattle.plan.proofs.call.planned_draws.Goals as goal

pub returns-in_default : goal.returns-in_default
returns-in_default c = record { session = refl; outcome = no_station_lem _ _ _ (sym c.named.ensures ∙ c.in_default.is) }

pub returns : goal.returns
returns c =
    let named = c.named.ensures in
    record { session = refl; outcome = on_station_lem _ _ _ (sym named ∙ c.in-Some.is) c.total_draws-outcome.ensures }
