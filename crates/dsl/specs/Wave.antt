-- "wave is the place in `SeqWave` from 0"; "Only 17 is left above 16, so 18 and more still break the form" (02, Card 8).
use Rattle.std.specs.Prelude.{ℕ, List, [], ◌∷◌, get_or, None, Option, Some}
use Rattle.dsl.specs.declared.wave.SeqWave.{SeqWave}
use Rattle.dsl.specs.declared.wave.SeqWave.TheVariants.{Square, Triangle, Sawtooth, Sine, Noise, Fm, Pluck, Piano, Epiano, Organ, Strings, Brass, Flute, Mallet, Bell, Bass, Kit, Cowbell}

-- the source's order; the source has `Sampler` at 18
abbrev pub places : List (Option SeqWave)
places =
    Some Square ∷ Some Triangle ∷ Some Sawtooth ∷ Some Sine ∷ Some Noise ∷ Some Fm ∷ Some Pluck ∷ Some Piano ∷ Some Epiano ∷ Some Organ ∷ Some Strings ∷ Some Brass ∷ Some Flute
    ∷ Some Mallet ∷ Some Bell ∷ Some Bass ∷ Some Kit ∷ Some Cowbell ∷ []

unfoldable pub wave_at : ℕ → Option SeqWave
wave_at place = get_or places place None
