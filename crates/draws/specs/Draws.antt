-- The draws of a note: noise and flute draw in each frame, pluck once for each value of its string, piano in each frame of its thump, the drum kit by style and drum, and the others not
-- at all.
use Rattle.std.specs.Prelude.{ℕ, min, Float}
use Rattle.dsl.specs.declared.kit.KitStyle.{KitStyle}
use Rattle.dsl.specs.declared.wave.SeqWave.{SeqWave}
use Rattle.dsl.specs.declared.wave.SeqWave.TheVariants.{Square, Triangle, Sawtooth, Sine, Noise, Fm, Pluck, Piano, Epiano, Organ, Strings, Brass, Flute, Mallet, Bell, Bass, Kit, Cowbell}
use Rattle.counts.specs.Period.{period_of}
use Rattle.counts.specs.Draws.{thump_frames}
use Rattle.kit_midi.specs.Midi.{first_drum}
use Rattle.kit_counts.specs.KitDraws.{kit_draws}

unfoldable pub draws_of : SeqWave → KitStyle → ℕ → Float → ℕ → ℕ
draws_of Square style rate first frames = 0
draws_of Triangle style rate first frames = 0
draws_of Sawtooth style rate first frames = 0
draws_of Sine style rate first frames = 0
draws_of Noise style rate first frames = frames
draws_of Fm style rate first frames = 0
draws_of Pluck style rate first frames = period_of rate first
draws_of Piano style rate first frames = min frames (thump_frames rate)
draws_of Epiano style rate first frames = 0
draws_of Organ style rate first frames = 0
draws_of Strings style rate first frames = 0
draws_of Brass style rate first frames = 0
draws_of Flute style rate first frames = frames
draws_of Mallet style rate first frames = 0
draws_of Bell style rate first frames = 0
draws_of Bass style rate first frames = 0
draws_of Kit style rate first frames = kit_draws style (first_drum first) rate frames
draws_of Cowbell style rate first frames = 0
