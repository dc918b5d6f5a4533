-- A frame by its level is the definition's, and which drums have none. Assumes nothing.
use Prim.Native.Nat.{ℕ}
use mathlib.Core.Path.{◌≡◌, refl}
use lib.Ieee.{Float}
use Rattle.ieee.specs.Numbers.{c0}
use Rattle.osc.specs.Phase.{seconds}
use Rattle.drum.specs.declared.Drum.{Drum}
use Rattle.drum.specs.declared.Drum.TheVariants.{Kick, Snare, Rim, Clap, ClosedHat, OpenHat, Tom, Cowbell, Crash, Ride, Unmapped}
use Rattle.kit_808.specs.declared.drums.Eight08State.{Eight08State}
use Rattle.kit_808.specs.Drums.{eight08_clap, eight08_unmapped}
use Rattle.kit_808.specs.Eight08.{eight08_drum, eight08_at}
use Rattle.kit_808.specs.Block.{eight08_clap_level, eight08_level, eight08_clap_by, eight08_noise_by, eight08_by}

-- all but clap and the unmapped
pub no_level : (drum : Drum) (t : Float) → (drum ≡ Clap → ⊥) → (drum ≡ Unmapped → ⊥) → c0 ≡ eight08_level drum t
unfolding eight08_level
no_level Kick t a1 a2 = refl
no_level Snare t a1 a2 = refl
no_level Rim t a1 a2 = refl
no_level Clap t a1 a2 = absurd (a1 refl)
no_level ClosedHat t a1 a2 = refl
no_level OpenHat t a1 a2 = refl
no_level (Tom above) t a1 a2 = refl
no_level Cowbell t a1 a2 = refl
no_level Crash t a1 a2 = refl
no_level Ride t a1 a2 = refl
no_level Unmapped t a1 a2 = absurd (a2 refl)

module _ (srf a6000 cloA chiA : Float) where
  pub by_level : (drum : Drum) (i : ℕ) (s : Eight08State) → eight08_by drum (eight08_level drum (seconds srf i)) srf a6000 cloA chiA i s ≡ eight08_at drum srf a6000 cloA chiA i s
  unfolding eight08_by eight08_level eight08_drum eight08_clap_level eight08_clap_by eight08_noise_by eight08_clap eight08_unmapped
  by_level Kick i s = refl
  by_level Snare i s = refl
  by_level Rim i s = refl
  by_level Clap i s = refl
  by_level ClosedHat i s = refl
  by_level OpenHat i s = refl
  by_level (Tom above) i s = refl
  by_level Cowbell i s = refl
  by_level Crash i s = refl
  by_level Ride i s = refl
  by_level Unmapped i s = refl
