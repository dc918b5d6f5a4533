-- `kit_counts::eight08_within` meets its contract. Assumes nothing.
use mathlib.Core.Logic.{inl, inr}
use Rattle.kit_counts.specs.KitDraws.{eight08_within}
use Rattle.kit_counts.proofs.Others.{eight08_in_each}
use Rattle.kit_counts.proofs.eight08_within.Goals as goal

pub returns-in-Kick : goal.returns-in-Kick
unfolding eight08_within
returns-in-Kick c = rw c.in-Kick.is c.frames_of.ensures

pub returns-in-Rim : goal.returns-in-Rim
unfolding eight08_within
returns-in-Rim c = rw c.in-Rim.is c.frames_of-in-Rim.ensures

-- the hats, the toms and the cowbell
pub returns-in-ClosedHat : goal.returns-in-ClosedHat
unfolding eight08_within
returns-in-ClosedHat c =
    elim c.in-ClosedHat.is [ inl e ↦ rw e | inr h ↦ elim h [ inl e ↦ rw e | inr i ↦ elim i [ inl e ↦ rw e.1 | inr e ↦ rw e ] ] ]

pub returns-in_default : goal.returns-in_default
returns-in_default c =
    let a = c.args in
    eight08_in_each a.drum a.rate a.frames c.in_default.not-Kick c.in_default.not-Rim c.in_default.not-ClosedHat c.in_default.not-OpenHat c.in_default.not-Tom c.in_default.not-Cowbell
