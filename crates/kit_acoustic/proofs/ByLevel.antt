-- A frame by its level is the definition's, and which drums have none. Assumes nothing.
use Prim.Native.Nat.{ℕ}
use mathlib.Core.Path.{◌≡◌, refl}
use lib.Ieee.{Float, lt, of_bits}
use Rattle.ieee.specs.Numbers.{c0, c0·018}
use Rattle.dsp.specs.Kernels.{exp_of}
use Rattle.osc.specs.Phase.{seconds}
use Rattle.voice_cowbell.specs.Cowbell.{cowbell_of, cowbell_at}
use Rattle.kit_parts.specs.Numbers.{c0·009, c0·027, c0·08, c0·1, c0·32, c540}
use Rattle.kit_parts.specs.Parts.{fade}
use Rattle.drum.specs.declared.Drum.{Drum}
use Rattle.drum.specs.declared.Drum.TheVariants.{Kick, Snare, Rim, Clap, ClosedHat, OpenHat, Tom, Cowbell, Crash, Ride, Unmapped}
use Rattle.kit_acoustic.specs.declared.drums.Coefficients.{Coefficients}
use Rattle.kit_acoustic.specs.declared.drums.AcousticState.{AcousticState}
use Rattle.kit_acoustic.specs.Drums.{acoustic_unmapped, acoustic_cowbell}
use Rattle.kit_acoustic.specs.Clap.{burst_of, acoustic_clap}
use Rattle.kit_acoustic.specs.Cymbals.{acoustic_closed_hat, acoustic_open_hat}
use Rattle.kit_acoustic.specs.Acoustic.{acoustic_drum, acoustic_at}
use Rattle.kit_acoustic.specs.Block.{acoustic_level, acoustic_by, burst_argument, heard_of, clap_mix, acoustic_clap_level, open_hat_mix, acoustic_open_hat_level, acoustic_block_level}
use Rattle.kit_acoustic.specs.Block.{acoustic_clap_by, acoustic_hat_by, acoustic_unmapped_by, acoustic_block_by}

pub burst_heard : (t d : Float) → heard_of t d (exp_of (burst_argument t d)) ≡ burst_of t d
unfolding heard_of burst_argument burst_of
burst_heard t d = refl

pub clap_mixed : {b1 b2 b3 b4 tail : Float} (t : Float) → b1 ≡ burst_of t c0 → b2 ≡ burst_of t c0·009 → b3 ≡ burst_of t c0·018 → b4 ≡ burst_of t c0·027 → tail ≡ fade t c0·1
    → clap_mix b1 b2 b3 b4 tail ≡ acoustic_clap_level t
unfolding acoustic_clap_level
clap_mixed t e1 e2 e3 e4 e5 = rw (e1, e2, e3, e4, e5)

pub open_hat_mixed : {slow fast : Float} (t : Float) → slow ≡ fade t c0·32 → fast ≡ fade t c0·08 → open_hat_mix slow fast ≡ acoustic_open_hat_level t
unfolding acoustic_open_hat_level
open_hat_mixed t e1 e2 = rw (e1, e2)

pub no_level : (drum : Drum) (t : Float) → (drum ≡ Clap → ⊥) → (drum ≡ ClosedHat → ⊥) → (drum ≡ OpenHat → ⊥) → (drum ≡ Unmapped → ⊥) → c0 ≡ acoustic_level drum t
unfolding acoustic_level
no_level Kick t a1 a2 a3 a4 = refl
no_level Snare t a1 a2 a3 a4 = refl
no_level Rim t a1 a2 a3 a4 = refl
no_level Clap t a1 a2 a3 a4 = absurd (a1 refl)
no_level ClosedHat t a1 a2 a3 a4 = absurd (a2 refl)
no_level OpenHat t a1 a2 a3 a4 = absurd (a3 refl)
no_level (Tom above) t a1 a2 a3 a4 = refl
no_level Cowbell t a1 a2 a3 a4 = refl
no_level Crash t a1 a2 a3 a4 = refl
no_level Ride t a1 a2 a3 a4 = refl
no_level Unmapped t a1 a2 a3 a4 = absurd (a4 refl)

-- all but clap, hats, cowbell and the unmapped
pub no_block_level : (drum : Drum) (t : Float) → (drum ≡ Clap → ⊥) → (drum ≡ ClosedHat → ⊥) → (drum ≡ OpenHat → ⊥) → (drum ≡ Cowbell → ⊥) → (drum ≡ Unmapped → ⊥) → c0 ≡ acoustic_block_level drum t
unfolding acoustic_block_level
no_block_level Kick t a1 a2 a3 a4 a5 = refl
no_block_level Snare t a1 a2 a3 a4 a5 = refl
no_block_level Rim t a1 a2 a3 a4 a5 = refl
no_block_level Clap t a1 a2 a3 a4 a5 = absurd (a1 refl)
no_block_level ClosedHat t a1 a2 a3 a4 a5 = absurd (a2 refl)
no_block_level OpenHat t a1 a2 a3 a4 a5 = absurd (a3 refl)
no_block_level (Tom above) t a1 a2 a3 a4 a5 = refl
no_block_level Cowbell t a1 a2 a3 a4 a5 = absurd (a4 refl)
no_block_level Crash t a1 a2 a3 a4 a5 = refl
no_block_level Ride t a1 a2 a3 a4 a5 = refl
no_block_level Unmapped t a1 a2 a3 a4 a5 = absurd (a5 refl)

-- the cowbell's pitch is above 20 Hz
pub cowbell_level : (srf : Float) (i : ℕ) → cowbell_at c540 srf i ≡ cowbell_of c540 (seconds srf i)
unfolding cowbell_at lt of_bits
cowbell_level srf i = refl

pub by_block_level : (drum : Drum) (k : Coefficients) (srf : Float) (i : ℕ) (s : AcousticState) →
    acoustic_block_by drum (acoustic_block_level drum (seconds srf i)) k srf i s ≡ acoustic_at drum k srf i s
unfolding acoustic_block_by acoustic_block_level acoustic_drum acoustic_cowbell acoustic_clap_by acoustic_hat_by acoustic_unmapped_by
    acoustic_clap_level clap_mix acoustic_open_hat_level open_hat_mix acoustic_clap acoustic_closed_hat acoustic_open_hat acoustic_unmapped
by_block_level Kick k srf i s = refl
by_block_level Snare k srf i s = refl
by_block_level Rim k srf i s = refl
by_block_level Clap k srf i s = refl
by_block_level ClosedHat k srf i s = refl
by_block_level OpenHat k srf i s = refl
by_block_level (Tom above) k srf i s = refl
by_block_level Cowbell k srf i s = refl
by_block_level Crash k srf i s = refl
by_block_level Ride k srf i s = refl
by_block_level Unmapped k srf i s = refl

-- likewise by the level that the cowbell has not
pub by_level : (drum : Drum) (k : Coefficients) (srf : Float) (i : ℕ) (s : AcousticState) → acoustic_by drum (acoustic_level drum (seconds srf i)) k srf i s ≡ acoustic_at drum k srf i s
unfolding acoustic_by acoustic_level acoustic_drum acoustic_clap_by acoustic_hat_by acoustic_unmapped_by
    acoustic_clap_level clap_mix acoustic_open_hat_level open_hat_mix acoustic_clap acoustic_closed_hat acoustic_open_hat acoustic_unmapped
by_level Kick k srf i s = refl
by_level Snare k srf i s = refl
by_level Rim k srf i s = refl
by_level Clap k srf i s = refl
by_level ClosedHat k srf i s = refl
by_level OpenHat k srf i s = refl
by_level (Tom above) k srf i s = refl
by_level Cowbell k srf i s = refl
by_level Crash k srf i s = refl
by_level Ride k srf i s = refl
by_level Unmapped k srf i s = refl
