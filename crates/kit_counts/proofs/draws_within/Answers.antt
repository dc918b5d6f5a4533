-- `kit_counts::draws_within` meets its contract. Assumes nothing.
use borrow.Author.Rules.{rules}
use Rattle.kit_counts.specs.KitDraws.{draws_within}
use Rattle.kit_counts.proofs.Others.{in_each}
use Rattle.kit_counts.proofs.draws_within.Goals as goal

pub returns-in-Kick : goal.returns-in-Kick
unfolding draws_within
returns-in-Kick c = rw c.in-Kick.is c.frames_of.ensures

pub returns-in-Cowbell : goal.returns-in-Cowbell
unfolding draws_within
returns-in-Cowbell c = rw c.in-Cowbell.is

pub returns-in_default : goal.returns-in_default
returns-in_default c = let a = c.args in in_each a.ms a.drum a.rate a.frames c.in_default.not-Kick c.in_default.not-Cowbell
