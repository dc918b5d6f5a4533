-- A hit has as many samples as frames. Assumes nothing.
use Rattle.std.proofs.Common.{◌≡◌, ℕ, length, refl}
use lib.Ieee.{Float}
use Rattle.laws.specs.Run.{samples}
use Rattle.laws.proofs.Fill.{samples_length}
use Rattle.rng.specs.declared.Rng.{Rng}
use Rattle.dsl.specs.declared.kit.KitStyle.{KitStyle}
use Rattle.dsl.specs.declared.kit.KitStyle.TheVariants.{Classic, Acoustic, Electronic, Eight08}
use Rattle.kit_classic.specs.Classic.{classic_frames}
use Rattle.kit_acoustic.specs.Acoustic.{acoustic_frames}
use Rattle.kit_electronic.specs.Electronic.{electronic_frames}
use Rattle.kit_808.specs.Eight08.{eight08_frames}
use Rattle.kit.specs.Kit.{style_frames, kit_frames}

pub kit_length : (style : KitStyle) (first : Float) (rate : ℕ) (rng : Rng) (n : ℕ) → length (kit_frames style first rate rng n) ≡ n
unfolding style_frames classic_frames acoustic_frames electronic_frames eight08_frames
kit_length Classic first rate rng n = samples_length _ _ _ _ n
kit_length Acoustic first rate rng n = samples_length _ _ _ _ n
kit_length Electronic first rate rng n = samples_length _ _ _ _ n
kit_length Eight08 first rate rng n = samples_length _ _ _ _ n

-- with no frame the first pitch is not read
pub kit_none : (style : KitStyle) (first first' : Float) (rate : ℕ) (rng : Rng) → kit_frames style first rate rng 0 ≡ kit_frames style first' rate rng 0
unfolding style_frames classic_frames acoustic_frames electronic_frames eight08_frames samples
kit_none Classic first first' rate rng = refl
kit_none Acoustic first first' rate rng = refl
kit_none Electronic first first' rate rng = refl
kit_none Eight08 first first' rate rng = refl
