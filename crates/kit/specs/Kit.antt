-- `kit_drum` of render/kit.rs: the frames of a hit by its style. `first` is the hit's first pitch, which picks the drum, `rate` the rate, n the frames.
use Rattle.std.specs.Prelude.{ℕ, List, Float}
use Rattle.ieee.specs.Numbers.{f32}
use Rattle.rng.specs.declared.Rng.{Rng}
use Rattle.dsl.specs.declared.kit.KitStyle.{KitStyle}
use Rattle.dsl.specs.declared.kit.KitStyle.TheVariants.{Classic, Acoustic, Electronic, Eight08}
use Rattle.drum.specs.declared.Drum.{Drum}
use Rattle.kit_midi.specs.Midi.{first_drum}
use Rattle.kit_classic.specs.Classic.{classic_frames}
use Rattle.kit_acoustic.specs.Acoustic.{acoustic_frames}
use Rattle.kit_electronic.specs.Electronic.{electronic_frames}
use Rattle.kit_808.specs.Eight08.{eight08_frames}

unfoldable pub style_frames : KitStyle → Drum → Float → Rng → ℕ → List Float
style_frames Classic drum srf rng n = classic_frames drum srf rng n
style_frames Acoustic drum srf rng n = acoustic_frames drum srf rng n
style_frames Electronic drum srf rng n = electronic_frames drum srf rng n
style_frames Eight08 drum srf rng n = eight08_frames drum srf rng n

abbrev pub kit_frames : KitStyle → Float → ℕ → Rng → ℕ → List Float
kit_frames style first rate rng n = style_frames style (first_drum first) (f32 rate) rng n
