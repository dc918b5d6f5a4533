-- A note's draws are few. Assumes nothing.
use Prim.Native.Nat.{ℕ, ◌≤◌, max}
use native.Mathlib.Omega.{arith}
use lib.Ieee.{Float}
use Rattle.dsl.specs.declared.kit.KitStyle.{KitStyle}
use Rattle.dsl.specs.declared.wave.SeqWave.{SeqWave}
use Rattle.dsl.specs.declared.wave.SeqWave.TheVariants.{Square, Triangle, Sawtooth, Sine, Noise, Fm, Pluck, Piano, Epiano, Organ, Strings, Brass, Flute, Mallet, Bell, Bass, Kit, Cowbell}
use Rattle.dsl.specs.Domain.{Rate}
use Rattle.counts.proofs.Periods.{period_fits}
use Rattle.kit_midi.specs.Midi.{first_drum}
use Rattle.kit_counts.proofs.Hits.{kit_most}
use Rattle.draws.specs.Draws.{draws_of}

pub draws_most : (wave : SeqWave) (style : KitStyle) (rate : ℕ) → Rate rate → (first : Float) (frames : ℕ) → draws_of wave style rate first frames ≤ max frames 9600
unfolding draws_of
draws_most Square style rate r first frames = omega arith
draws_most Triangle style rate r first frames = omega arith
draws_most Sawtooth style rate r first frames = omega arith
draws_most Sine style rate r first frames = omega arith
draws_most Noise style rate r first frames = omega arith
draws_most Fm style rate r first frames = omega arith
draws_most Pluck style rate r first frames = omega (arith, period_fits rate r first)
draws_most Piano style rate r first frames = omega arith
draws_most Epiano style rate r first frames = omega arith
draws_most Organ style rate r first frames = omega arith
draws_most Strings style rate r first frames = omega arith
draws_most Brass style rate r first frames = omega arith
draws_most Flute style rate r first frames = omega arith
draws_most Mallet style rate r first frames = omega arith
draws_most Bell style rate r first frames = omega arith
draws_most Bass style rate r first frames = omega arith
draws_most Kit style rate r first frames = omega (arith, kit_most style (first_drum first) rate frames)
draws_most Cowbell style rate r first frames = omega arith
