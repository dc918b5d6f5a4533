-- "Wave names are those of `SeqWave` in lower case."
use Rattle.std.specs.Prelude.{ℕ, List, [], ◌∷◌}
use Prim.Native.Char.{code}
use Prim.Native.String.{String}
use Prim.Native.String as string
use Rattle.dsl.specs.declared.wave.SeqWave.{SeqWave}
use Rattle.dsl.specs.declared.wave.SeqWave.TheVariants.{Square, Triangle, Sawtooth, Sine, Noise, Fm, Pluck, Piano, Epiano, Organ, Strings, Brass, Flute, Mallet, Bell, Bass, Kit, Cowbell}

-- the bytes of a text
abbrev pub bytes : String → List ℕ
bytes string.[] = []
bytes (string.◌∷◌ c s) = code c ∷ bytes s

abbrev pub wave_name : SeqWave → List ℕ
wave_name Square = bytes "square"
wave_name Triangle = bytes "triangle"
wave_name Sawtooth = bytes "sawtooth"
wave_name Sine = bytes "sine"
wave_name Noise = bytes "noise"
wave_name Fm = bytes "fm"
wave_name Pluck = bytes "pluck"
wave_name Piano = bytes "piano"
wave_name Epiano = bytes "epiano"
wave_name Organ = bytes "organ"
wave_name Strings = bytes "strings"
wave_name Brass = bytes "brass"
wave_name Flute = bytes "flute"
wave_name Mallet = bytes "mallet"
wave_name Bell = bytes "bell"
wave_name Bass = bytes "bass"
wave_name Kit = bytes "kit"
wave_name Cowbell = bytes "cowbell"
