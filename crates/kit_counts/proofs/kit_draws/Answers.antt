-- `kit_counts::kit_draws` meets its contract. Assumes nothing.
use borrow.Author.Rules.{rules}
use Rattle.kit_counts.specs.KitDraws.{kit_draws}
use Rattle.kit_counts.proofs.kit_draws.Goals as goal

pub returns-in-Classic : goal.returns-in-Classic
unfolding kit_draws
returns-in-Classic c = rw c.in-Classic.is c.draws_within.ensures

pub returns-in-Acoustic : goal.returns-in-Acoustic
unfolding kit_draws
returns-in-Acoustic c = rw c.in-Acoustic.is c.draws_within-in-Acoustic.ensures

pub returns-in-Electronic : goal.returns-in-Electronic
unfolding kit_draws
returns-in-Electronic c = rw c.in-Electronic.is c.draws_within-in-Electronic.ensures

pub returns-in-Eight08 : goal.returns-in-Eight08
unfolding kit_draws
returns-in-Eight08 c = rw c.in-Eight08.is c.eight08_within.ensures
