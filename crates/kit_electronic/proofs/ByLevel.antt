-- A frame by its level is the definition's, which drums have none, and a clap's level by its argument. Assumes nothing.
use Prim.Native.Nat.{ℕ}
use mathlib.Core.Path.{◌≡◌, refl}
use mathlib.Core.Bool.{Bool, true, false, cond}
use lib.Ieee.{Float, lt, of_bits}
use Rattle.ieee.specs.Numbers.{c0, c0·03}
use Rattle.dsp.specs.Kernels.{exp_of}
use Rattle.osc.specs.Phase.{seconds}
use Rattle.voice_cowbell.specs.Cowbell.{cowbell_of, cowbell_at}
use Rattle.kit_parts.specs.Numbers.{c555}
use Rattle.drum.specs.declared.Drum.{Drum}
use Rattle.drum.specs.declared.Drum.TheVariants.{Kick, Snare, Rim, Clap, ClosedHat, OpenHat, Tom, Cowbell, Crash, Ride, Unmapped}
use Rattle.kit_electronic.specs.declared.drums.ElectronicState.{ElectronicState}
use Rattle.kit_electronic.specs.Drums.{claps_of, electronic_clap, electronic_cowbell}
use Rattle.kit_electronic.specs.Cymbals.{electronic_hiss}
use Rattle.kit_electronic.specs.Electronic.{electronic_drum, electronic_at}
use Rattle.kit_electronic.specs.Block.{electronic_level, electronic_by, electronic_block_level, clap_argument, electronic_clap_by, electronic_hiss_by, electronic_block_by}

-- the exponential of a choice
exp_cond : (b : Bool) (x y : Float) → exp_of (cond b x y) ≡ cond b (exp_of x) (exp_of y)
exp_cond true x y = refl
exp_cond false x y = refl

pub clap_exp : (t : Float) → exp_of (clap_argument t) ≡ claps_of t
unfolding clap_argument claps_of
clap_exp t = exp_cond (lt t c0·03) _ _

pub no_level : (drum : Drum) (t : Float) → (drum ≡ Clap → ⊥) → (drum ≡ ClosedHat → ⊥) → (drum ≡ Unmapped → ⊥) → c0 ≡ electronic_level drum t
unfolding electronic_level
no_level Kick t a1 a2 a3 = refl
no_level Snare t a1 a2 a3 = refl
no_level Rim t a1 a2 a3 = refl
no_level Clap t a1 a2 a3 = absurd (a1 refl)
no_level ClosedHat t a1 a2 a3 = absurd (a2 refl)
no_level OpenHat t a1 a2 a3 = refl
no_level (Tom above) t a1 a2 a3 = refl
no_level Cowbell t a1 a2 a3 = refl
no_level Crash t a1 a2 a3 = refl
no_level Ride t a1 a2 a3 = refl
no_level Unmapped t a1 a2 a3 = absurd (a3 refl)

-- all but clap, closed hat, cowbell and the unmapped
pub no_block_level : (drum : Drum) (t : Float) → (drum ≡ Clap → ⊥) → (drum ≡ ClosedHat → ⊥) → (drum ≡ Cowbell → ⊥) → (drum ≡ Unmapped → ⊥) → c0 ≡ electronic_block_level drum t
unfolding electronic_block_level
no_block_level Kick t a1 a2 a3 a4 = refl
no_block_level Snare t a1 a2 a3 a4 = refl
no_block_level Rim t a1 a2 a3 a4 = refl
no_block_level Clap t a1 a2 a3 a4 = absurd (a1 refl)
no_block_level ClosedHat t a1 a2 a3 a4 = absurd (a2 refl)
no_block_level OpenHat t a1 a2 a3 a4 = refl
no_block_level (Tom above) t a1 a2 a3 a4 = refl
no_block_level Cowbell t a1 a2 a3 a4 = absurd (a3 refl)
no_block_level Crash t a1 a2 a3 a4 = refl
no_block_level Ride t a1 a2 a3 a4 = refl
no_block_level Unmapped t a1 a2 a3 a4 = absurd (a4 refl)

-- the cowbell's pitch is above 20 Hz
pub cowbell_level : (srf : Float) (i : ℕ) → cowbell_at c555 srf i ≡ cowbell_of c555 (seconds srf i)
unfolding cowbell_at lt of_bits
cowbell_level srf i = refl

pub by_block_level : (drum : Drum) (srf a5500 a9000 : Float) (i : ℕ) (s : ElectronicState)
    → electronic_block_by drum (electronic_block_level drum (seconds srf i)) srf a5500 a9000 i s ≡ electronic_at drum srf a5500 a9000 i s
unfolding electronic_block_by electronic_block_level electronic_drum electronic_cowbell electronic_clap_by electronic_hiss_by electronic_clap electronic_hiss
by_block_level Kick srf a5500 a9000 i s = refl
by_block_level Snare srf a5500 a9000 i s = refl
by_block_level Rim srf a5500 a9000 i s = refl
by_block_level Clap srf a5500 a9000 i s = refl
by_block_level ClosedHat srf a5500 a9000 i s = refl
by_block_level OpenHat srf a5500 a9000 i s = refl
by_block_level (Tom above) srf a5500 a9000 i s = refl
by_block_level Cowbell srf a5500 a9000 i s = refl
by_block_level Crash srf a5500 a9000 i s = refl
by_block_level Ride srf a5500 a9000 i s = refl
by_block_level Unmapped srf a5500 a9000 i s = refl

-- likewise by the level that the cowbell has not
pub by_level : (drum : Drum) (srf a5500 a9000 : Float) (i : ℕ) (s : ElectronicState)
    → electronic_by drum (electronic_level drum (seconds srf i)) srf a5500 a9000 i s ≡ electronic_at drum srf a5500 a9000 i s
unfolding electronic_by electronic_level electronic_drum electronic_clap_by electronic_hiss_by electronic_clap electronic_hiss
by_level Kick srf a5500 a9000 i s = refl
by_level Snare srf a5500 a9000 i s = refl
by_level Rim srf a5500 a9000 i s = refl
by_level Clap srf a5500 a9000 i s = refl
by_level ClosedHat srf a5500 a9000 i s = refl
by_level OpenHat srf a5500 a9000 i s = refl
by_level (Tom above) srf a5500 a9000 i s = refl
by_level Cowbell srf a5500 a9000 i s = refl
by_level Crash srf a5500 a9000 i s = refl
by_level Ride srf a5500 a9000 i s = refl
by_level Unmapped srf a5500 a9000 i s = refl
