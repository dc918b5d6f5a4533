-- `seq_note_signal` of render/seq.rs: the samples of a note before its envelope. `f` and `d` are the pitch and the duty by frame, `s` the generator's state, n the frames.
use Rattle.std.specs.Prelude.{ℕ, List, Float}
use Rattle.ieee.specs.Numbers.{f32}
use Rattle.dsl.specs.declared.wave.SeqWave.{SeqWave}
use Rattle.dsl.specs.declared.wave.SeqWave.TheVariants.{Square, Triangle, Sawtooth, Sine, Noise, Fm, Pluck, Piano, Epiano, Organ, Strings, Brass, Flute, Mallet, Bell, Bass, Kit, Cowbell}
use Rattle.voice_waves.specs.Pulse.{square_frames, triangle_frames}
use Rattle.voice_waves.specs.Plain.{sawtooth_frames, sine_frames}
use Rattle.voice_noise.specs.Noise.{noise_frames}
use Rattle.voice_waves.specs.Fm.{fm_frames}
use Rattle.voice_cowbell.specs.Cowbell.{cowbell_frames}
use Rattle.voice_epiano.specs.Epiano.{epiano_frames}
use Rattle.voice_mallet.specs.Mallet.{mallet_frames}
use Rattle.voice_bell.specs.Bell.{bell_frames}
use Rattle.voice_bass.specs.Bass.{bass_frames}
use Rattle.voice_organ.specs.Organ.{organ_frames}
use Rattle.voice_strings.specs.Strings.{strings_frames}
use Rattle.voice_brass.specs.Brass.{brass_frames}
use Rattle.voice_flute.specs.Flute.{flute_frames}
use Rattle.voice_pluck.specs.Pluck.{pluck_frames}
use Rattle.voice_piano.specs.Piano.{piano_frames}
use Rattle.kit.specs.Kit.{kit_frames}
use Rattle.counts.specs.Period.{period_of}
use Rattle.dsl.specs.declared.knobs.SeqVoice.{SeqVoice}

-- by the wave, with the knobs of the voice v at the rate r
unfoldable pub wave_frames : SeqWave → ℕ → SeqVoice → Float → (ℕ → Float) → (ℕ → Float) → ℕ → ℕ → List Float
wave_frames Square r v gain f d s n = square_frames f d (f32 r) n
wave_frames Triangle r v gain f d s n = triangle_frames f (f32 r) n
wave_frames Sawtooth r v gain f d s n = sawtooth_frames f (f32 r) n
wave_frames Sine r v gain f d s n = sine_frames f (f32 r) n
wave_frames Noise r v gain f d s n = noise_frames s n
wave_frames Fm r v gain f d s n = fm_frames f v.fm gain (f32 r) n
wave_frames Pluck r v gain f d s n = pluck_frames v.pluck (f32 r) (period_of r (f 0)) s n
wave_frames Piano r v gain f d s n = piano_frames f v.piano gain (f32 r) s n
wave_frames Epiano r v gain f d s n = epiano_frames f gain (f32 r) n
wave_frames Organ r v gain f d s n = organ_frames v.bars f (f32 r) n
wave_frames Strings r v gain f d s n = strings_frames f (f32 r) n
wave_frames Brass r v gain f d s n = brass_frames f gain (f32 r) n
wave_frames Flute r v gain f d s n = flute_frames f gain (f32 r) (record { 0 = s }) n
wave_frames Mallet r v gain f d s n = mallet_frames f gain (f32 r) n
wave_frames Bell r v gain f d s n = bell_frames f (f32 r) n
wave_frames Bass r v gain f d s n = bass_frames f v.bass gain (f32 r) n
wave_frames Kit r v gain f d s n = kit_frames v.kit (f 0) r (record { 0 = s }) n
wave_frames Cowbell r v gain f d s n = cowbell_frames f (f32 r) n

abbrev pub note_frames : ℕ → SeqVoice → Float → (ℕ → Float) → (ℕ → Float) → ℕ → ℕ → List Float
note_frames r v gain f d s n = wave_frames v.wave r v gain f d s n
