-- A frame by its level is the definition's, and which drums have none. Assumes nothing.
use Prim.Native.Nat.{ℕ}
use mathlib.Core.Path.{◌≡◌, refl}
use lib.Ieee.{Float, lt, of_bits}
use Rattle.ieee.specs.Numbers.{c0}
use Rattle.osc.specs.Phase.{seconds}
use Rattle.voice_cowbell.specs.Cowbell.{cowbell_of, cowbell_at}
use Rattle.kit_parts.specs.Numbers.{c540}
use Rattle.drum.specs.declared.Drum.{Drum}
use Rattle.drum.specs.declared.Drum.TheVariants.{Kick, Snare, Rim, Clap, ClosedHat, OpenHat, Tom, Cowbell, Crash, Ride, Unmapped}
use Rattle.kit_classic.specs.declared.drums.ClassicState.{ClassicState}
use Rattle.kit_classic.specs.Drums.{classic_clap, classic_unmapped, classic_cowbell}
use Rattle.kit_classic.specs.Cymbals.{classic_hiss}
use Rattle.kit_classic.specs.Classic.{classic_drum, classic_at}
use Rattle.kit_classic.specs.Block.{classic_level, classic_by, classic_block_level, classic_noise_by, classic_hiss_by, classic_block_by}

pub no_level : (drum : Drum) (t : Float) → (drum ≡ Clap → ⊥) → (drum ≡ ClosedHat → ⊥) → (drum ≡ OpenHat → ⊥) → (drum ≡ Crash → ⊥) → (drum ≡ Unmapped → ⊥) → c0 ≡ classic_level drum t
unfolding classic_level
no_level Kick t a1 a2 a3 a4 a5 = refl
no_level Snare t a1 a2 a3 a4 a5 = refl
no_level Rim t a1 a2 a3 a4 a5 = refl
no_level Clap t a1 a2 a3 a4 a5 = absurd (a1 refl)
no_level ClosedHat t a1 a2 a3 a4 a5 = absurd (a2 refl)
no_level OpenHat t a1 a2 a3 a4 a5 = absurd (a3 refl)
no_level (Tom above) t a1 a2 a3 a4 a5 = refl
no_level Cowbell t a1 a2 a3 a4 a5 = refl
no_level Crash t a1 a2 a3 a4 a5 = absurd (a4 refl)
no_level Ride t a1 a2 a3 a4 a5 = refl
no_level Unmapped t a1 a2 a3 a4 a5 = absurd (a5 refl)

-- all but clap, hats, cowbell, crash and the unmapped
pub no_block_level : (drum : Drum) (t : Float) → (drum ≡ Clap → ⊥) → (drum ≡ ClosedHat → ⊥) → (drum ≡ OpenHat → ⊥) → (drum ≡ Cowbell → ⊥) → (drum ≡ Crash → ⊥) → (drum ≡ Unmapped → ⊥) →
    c0 ≡ classic_block_level drum t
unfolding classic_block_level
no_block_level Kick t a1 a2 a3 a4 a5 a6 = refl
no_block_level Snare t a1 a2 a3 a4 a5 a6 = refl
no_block_level Rim t a1 a2 a3 a4 a5 a6 = refl
no_block_level Clap t a1 a2 a3 a4 a5 a6 = absurd (a1 refl)
no_block_level ClosedHat t a1 a2 a3 a4 a5 a6 = absurd (a2 refl)
no_block_level OpenHat t a1 a2 a3 a4 a5 a6 = absurd (a3 refl)
no_block_level (Tom above) t a1 a2 a3 a4 a5 a6 = refl
no_block_level Cowbell t a1 a2 a3 a4 a5 a6 = absurd (a4 refl)
no_block_level Crash t a1 a2 a3 a4 a5 a6 = absurd (a5 refl)
no_block_level Ride t a1 a2 a3 a4 a5 a6 = refl
no_block_level Unmapped t a1 a2 a3 a4 a5 a6 = absurd (a6 refl)

-- the cowbell's pitch is above 20 Hz
pub cowbell_level : (srf : Float) (i : ℕ) → cowbell_at c540 srf i ≡ cowbell_of c540 (seconds srf i)
unfolding cowbell_at lt of_bits
cowbell_level srf i = refl

pub by_block_level : (drum : Drum) (srf hpA : Float) (i : ℕ) (s : ClassicState) → classic_block_by drum (classic_block_level drum (seconds srf i)) srf hpA i s ≡ classic_at drum srf hpA i s
unfolding classic_block_by classic_block_level classic_drum classic_cowbell classic_noise_by classic_hiss_by classic_clap classic_unmapped classic_hiss
by_block_level Kick srf hpA i s = refl
by_block_level Snare srf hpA i s = refl
by_block_level Rim srf hpA i s = refl
by_block_level Clap srf hpA i s = refl
by_block_level ClosedHat srf hpA i s = refl
by_block_level OpenHat srf hpA i s = refl
by_block_level (Tom above) srf hpA i s = refl
by_block_level Cowbell srf hpA i s = refl
by_block_level Crash srf hpA i s = refl
by_block_level Ride srf hpA i s = refl
by_block_level Unmapped srf hpA i s = refl

-- likewise by the level that the cowbell has not
pub by_level : (drum : Drum) (srf hpA : Float) (i : ℕ) (s : ClassicState) → classic_by drum (classic_level drum (seconds srf i)) srf hpA i s ≡ classic_at drum srf hpA i s
unfolding classic_by classic_level classic_drum classic_noise_by classic_hiss_by classic_clap classic_unmapped classic_hiss
by_level Kick srf hpA i s = refl
by_level Snare srf hpA i s = refl
by_level Rim srf hpA i s = refl
by_level Clap srf hpA i s = refl
by_level ClosedHat srf hpA i s = refl
by_level OpenHat srf hpA i s = refl
by_level (Tom above) srf hpA i s = refl
by_level Cowbell srf hpA i s = refl
by_level Crash srf hpA i s = refl
by_level Ride srf hpA i s = refl
by_level Unmapped srf hpA i s = refl
