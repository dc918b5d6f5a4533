-- The last arm of a match on a drum: which drums it has. Assumes nothing.
use Prim.Native.Nat.{ℕ}
use mathlib.Core.Path.{◌≡◌, refl}
use mathlib.Core.List.{List, [], ◌∷◌}
use Rattle.drum.specs.declared.Drum.{Drum}
use Rattle.drum.specs.declared.Drum.TheVariants.{Kick, Snare, Rim, Clap, ClosedHat, OpenHat, Tom, Cowbell, Crash, Ride, Unmapped}
use Rattle.kit_counts.specs.KitDraws.{draws_within, eight08_within}

-- all but the kick and the cowbell
pub in_each : (ms : ℕ) (drum : Drum) (rate frames : ℕ) → (drum ≡ Kick → ⊥) → (drum ≡ Cowbell → ⊥) → frames ≡ draws_within ms drum rate frames
unfolding draws_within
in_each ms Kick rate frames a1 a2 = absurd (a1 refl)
in_each ms Snare rate frames a1 a2 = refl
in_each ms Rim rate frames a1 a2 = refl
in_each ms Clap rate frames a1 a2 = refl
in_each ms ClosedHat rate frames a1 a2 = refl
in_each ms OpenHat rate frames a1 a2 = refl
in_each ms (Tom above) rate frames a1 a2 = refl
in_each ms Cowbell rate frames a1 a2 = absurd (a2 refl)
in_each ms Crash rate frames a1 a2 = refl
in_each ms Ride rate frames a1 a2 = refl
in_each ms Unmapped rate frames a1 a2 = refl

-- snare, clap, crash, ride and the unmapped
pub eight08_in_each : (drum : Drum) (rate frames : ℕ) → (drum ≡ Kick → ⊥) → (drum ≡ Rim → ⊥) → (drum ≡ ClosedHat → ⊥) → (drum ≡ OpenHat → ⊥) → ((above : _) → drum ≡ Tom above → ⊥) →
    (drum ≡ Cowbell → ⊥) → frames ≡ eight08_within drum rate frames
unfolding eight08_within
eight08_in_each Kick rate frames a1 a2 a3 a4 a5 a6 = absurd (a1 refl)
eight08_in_each Snare rate frames a1 a2 a3 a4 a5 a6 = refl
eight08_in_each Rim rate frames a1 a2 a3 a4 a5 a6 = absurd (a2 refl)
eight08_in_each Clap rate frames a1 a2 a3 a4 a5 a6 = refl
eight08_in_each ClosedHat rate frames a1 a2 a3 a4 a5 a6 = absurd (a3 refl)
eight08_in_each OpenHat rate frames a1 a2 a3 a4 a5 a6 = absurd (a4 refl)
eight08_in_each (Tom above) rate frames a1 a2 a3 a4 a5 a6 = absurd (a5 above refl)
eight08_in_each Cowbell rate frames a1 a2 a3 a4 a5 a6 = absurd (a6 refl)
eight08_in_each Crash rate frames a1 a2 a3 a4 a5 a6 = refl
eight08_in_each Ride rate frames a1 a2 a3 a4 a5 a6 = refl
eight08_in_each Unmapped rate frames a1 a2 a3 a4 a5 a6 = refl
