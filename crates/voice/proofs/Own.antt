-- A note reads its pitch and its duty only at its own frames, and has as many samples as frames. Use where a note of a score is played alone. Assumes nothing.
use Rattle.std.proofs.Common.{◌≡◌, ℕ, List, length, refl, ◌∙◌}
use lib.Ieee.{Float}
use Rattle.ieee.specs.Numbers.{f32}
use Rattle.laws.specs.Run.{samples}
use Rattle.laws.proofs.Fill.{samples_length}
use Rattle.laws.proofs.Own.{Below, own_frames, own_first}
use Rattle.dsl.specs.declared.wave.SeqWave.{SeqWave}
use Rattle.dsl.specs.declared.wave.SeqWave.TheVariants.{Square, Triangle, Sawtooth, Sine, Noise, Fm, Pluck, Piano, Epiano, Organ, Strings, Brass, Flute, Mallet, Bell, Bass, Kit, Cowbell}
use Rattle.voice_waves.specs.Pulse.{square_at, triangle_at, square_frames, triangle_frames}
use Rattle.voice_waves.specs.Plain.{sawtooth_at, sine_at, sawtooth_frames, sine_frames}
use Rattle.voice_noise.proofs.Draws.{noise_length}
use Rattle.voice_waves.specs.Fm.{fm_at, fm_frames}
use Rattle.voice_cowbell.specs.Cowbell.{cowbell_at, cowbell_frames}
use Rattle.voice_epiano.specs.Epiano.{epiano_decay, epiano_at, epiano_start, epiano_frames}
use Rattle.voice_mallet.specs.Mallet.{mallet_at, mallet_frames}
use Rattle.voice_bell.specs.Bell.{bell_at, bell_frames}
use Rattle.voice_bass.specs.Bass.{bass_at, bass_frames}
use Rattle.voice_organ.specs.Organ.{organ_norm, organ_at, organ_frames}
use Rattle.voice_strings.specs.Strings.{strings_lowpass, strings_at, strings_frames}
use Rattle.voice_brass.specs.Brass.{brass_at, brass_frames}
use Rattle.voice_flute.specs.Flute.{flute_lowpass, flute_at, flute_frames}
use Rattle.voice_pluck.specs.Pluck.{ring_frames, pluck_frames}
use Rattle.voice_piano.specs.Piano.{piano_at, norm_of, sound_frames, piano_frames}
use Rattle.voice_piano.specs.Hammer.{blow_of, partials_of}
use Rattle.voice_piano.specs.Wires.{pair_of}
use Rattle.voice_piano.specs.declared.hammer.Partial.{Partial}
use Rattle.kit.specs.Kit.{kit_frames}
use Rattle.kit.proofs.Frames.{kit_length, kit_none}
use Rattle.counts.specs.Period.{period_of}
use Rattle.voice.specs.Voice.{wave_frames, note_frames}
use Rattle.dsl.specs.declared.knobs.SeqVoice.{SeqVoice}

module _ (r : ℕ) (v : SeqVoice) (gain : Float) (f f' d d' : ℕ → Float) (s n : ℕ) (h : Below f f' n) where
  -- those that also read their first pitch read none where they have no frame
  pluck_same : wave_frames Pluck r v gain f d s n ≡ wave_frames Pluck r v gain f' d' s n
  unfolding wave_frames ring_frames samples
  pluck_same = own_first (λ first. pluck_frames v.pluck (f32 r) (period_of r first) s) (λ x y. refl) f f' n h

  piano_same : wave_frames Piano r v gain f d s n ≡ wave_frames Piano r v gain f' d' s n
  unfolding wave_frames piano_frames sound_frames samples
  piano_same =
      let det = pair_of v.piano.piano_detune in
      let ps : Float → List Partial = λ first. partials_of (blow_of v.piano gain first) (f32 r) in
      own_first (λ first. sound_frames f (f32 r) det (norm_of (ps first)) (record { partials = ps first; rng = s })) (λ x y. refl) f f' n h
      ∙ own_frames (λ p. piano_at p (f32 r) det (norm_of (ps (f' 0)))) (λ r. r.sample) (λ r. r.state) (record { partials = ps (f' 0); rng = s }) f f' n h

  epiano_same : wave_frames Epiano r v gain f d s n ≡ wave_frames Epiano r v gain f' d' s n
  unfolding wave_frames epiano_frames samples
  epiano_same =
      own_first (λ first. samples (λ i. epiano_at (f i) gain (f32 r) (epiano_decay first) i) (λ r. r.sample) (λ r. r.state) epiano_start) (λ x y. refl) f f' n h
      ∙ own_frames (λ p. epiano_at p gain (f32 r) (epiano_decay (f' 0))) (λ r. r.sample) (λ r. r.state) epiano_start f f' n h

  wave_same : (w : SeqWave) → Below d d' n → wave_frames w r v gain f d s n ≡ wave_frames w r v gain f' d' s n
  unfolding wave_frames square_frames triangle_frames sawtooth_frames sine_frames fm_frames organ_frames strings_frames brass_frames flute_frames mallet_frames bell_frames bass_frames cowbell_frames
  wave_same Square e = own_frames (λ (p : Float × Float) i. square_at p.0 p.1 (f32 r)) _ _ _ (λ i. (f i, d i)) (λ i. (f' i, d' i)) n (λ i l j. (h i l j, e i l j))
  wave_same Triangle e = own_frames (λ p i. triangle_at p (f32 r)) _ _ _ f f' n h
  wave_same Sawtooth e = own_frames (λ p i. sawtooth_at p (f32 r)) _ _ _ f f' n h
  wave_same Sine e = own_frames (λ p i. sine_at p (f32 r)) _ _ _ f f' n h
  wave_same Noise e = refl
  wave_same Fm e = own_frames (λ p. fm_at p v.fm gain (f32 r)) _ _ _ f f' n h
  wave_same Pluck e = pluck_same
  wave_same Piano e = piano_same
  wave_same Epiano e = epiano_same
  wave_same Organ e = own_frames (λ p. organ_at v.bars (organ_norm v.bars) p (f32 r)) _ _ _ f f' n h
  wave_same Strings e = own_frames (λ p. strings_at p (f32 r) (strings_lowpass (f32 r))) _ _ _ f f' n h
  wave_same Brass e = own_frames (λ p. brass_at p gain (f32 r)) _ _ _ f f' n h
  wave_same Flute e = own_frames (λ p. flute_at p gain (f32 r) (flute_lowpass (f32 r))) _ _ _ f f' n h
  wave_same Mallet e = own_frames (λ p. mallet_at p gain (f32 r)) _ _ _ f f' n h
  wave_same Bell e = own_frames (λ p. bell_at p (f32 r)) _ _ _ f f' n h
  wave_same Bass e = own_frames (λ p. bass_at p v.bass gain (f32 r)) _ _ _ f f' n h
  wave_same Kit e = own_first (λ first. kit_frames v.kit first r (record { 0 = s })) (λ x y. kit_none v.kit x y r (record { 0 = s })) f f' n h
  wave_same Cowbell e = own_frames (λ p i (s : ℕ). cowbell_at p (f32 r) i) _ _ _ f f' n h

module _ (r : ℕ) (v : SeqVoice) (gain : Float) (f f' d d' : ℕ → Float) (s : ℕ) where
  -- pitches and duties that agree below n give the same n samples
  pub note_same : (n : ℕ) → Below f f' n → Below d d' n → note_frames r v gain f d s n ≡ note_frames r v gain f' d' s n
  note_same n h = wave_same r v gain f f' d d' s n h v.wave

module _ (r : ℕ) (v : SeqVoice) (gain : Float) (f d : ℕ → Float) (s n : ℕ) where
  pluck_length : length (wave_frames Pluck r v gain f d s n) ≡ n
  unfolding wave_frames ring_frames
  pluck_length = samples_length _ _ _ _ n

  piano_length : length (wave_frames Piano r v gain f d s n) ≡ n
  unfolding wave_frames piano_frames sound_frames
  piano_length = samples_length _ _ _ _ n

  wave_length : (w : SeqWave) → length (wave_frames w r v gain f d s n) ≡ n
  unfolding wave_frames square_frames triangle_frames sawtooth_frames sine_frames fm_frames epiano_frames organ_frames strings_frames brass_frames flute_frames mallet_frames bell_frames
      bass_frames cowbell_frames
  wave_length Square = samples_length _ _ _ _ n
  wave_length Triangle = samples_length _ _ _ _ n
  wave_length Sawtooth = samples_length _ _ _ _ n
  wave_length Sine = samples_length _ _ _ _ n
  wave_length Noise = noise_length s n
  wave_length Fm = samples_length _ _ _ _ n
  wave_length Pluck = pluck_length
  wave_length Piano = piano_length
  wave_length Epiano = samples_length _ _ _ _ n
  wave_length Organ = samples_length _ _ _ _ n
  wave_length Strings = samples_length _ _ _ _ n
  wave_length Brass = samples_length _ _ _ _ n
  wave_length Flute = samples_length _ _ _ _ n
  wave_length Mallet = samples_length _ _ _ _ n
  wave_length Bell = samples_length _ _ _ _ n
  wave_length Bass = samples_length _ _ _ _ n
  wave_length Kit = kit_length v.kit (f 0) r (record { 0 = s }) n
  wave_length Cowbell = samples_length _ _ _ _ n

  pub note_length : length (note_frames r v gain f d s n) ≡ n
  note_length = wave_length v.wave
