-- `voice::voice_note` meets its contract. Assumes nothing.
use Rattle.std.proofs.Common.{◌≡◌, sym, refl, arith}
use Rattle.rng.specs.SplitMix64.{state_after}
use Rattle.rng.proofs.States.{state_none}
use Rattle.dsl.proofs.Reach.{reaches_less}
use Rattle.draws.specs.Draws.{draws_of}
use Rattle.counts.proofs.Periods.{period_fits}
use Rattle.voice_pluck.proofs.Kept.{pluck_kept}
use Rattle.voice.specs.Voice.{wave_frames}
use Rattle.voice.proofs.voice_note.Goals as goal

-- a wave that does not draw
pub square-requires : goal.square-requires
square-requires c =
    record {
      reaches = c.requires.reaches;
      reaches_2 = c.requires.reaches_2;
    }

pub triangle-requires : goal.triangle-requires
triangle-requires c = c.requires.reaches

pub sawtooth-requires : goal.sawtooth-requires
sawtooth-requires c = c.requires.reaches

pub sine-requires : goal.sine-requires
sine-requires c = c.requires.reaches

pub shape_of-out-in-Noise : goal.shape_of-out-in-Noise
shape_of-out-in-Noise c = c.noise.auto.out

pub returns-in-Noise : goal.returns-in-Noise
unfolding draws_of wave_frames
returns-in-Noise c = rw c.in-Noise.is (record { result_value = c.noise.ensures.result_value; out_after = c.noise.ensures.out_after; string_unchanged = refl })

pub fm-requires : goal.fm-requires
fm-requires c =
    record {
      reaches = c.requires.reaches;
      frames = c.requires.frames;
    }

pub pluck_note-requires : goal.pluck_note-requires
pluck_note-requires c =
    record {
      rate = c.requires.rate;
      reaches = c.requires.reaches;
      out_nonzero = c.requires.out_nonzero;
      frames = c.requires.frames;
      in_bounds = c.requires.in_bounds;
    }

pub shape_of-out-in-Pluck : goal.shape_of-out-in-Pluck
shape_of-out-in-Pluck c = c.pluck_note.auto.out

pub shape_of-string-in-Pluck : goal.shape_of-string-in-Pluck
shape_of-string-in-Pluck c = c.pluck_note.auto.string

pub returns-in-Pluck : goal.returns-in-Pluck
unfolding draws_of wave_frames
returns-in-Pluck c =
    let fits = period_fits c.args.rate c.requires.rate _ in
    let kept = pluck_kept c.args.voice.pluck _ _ c.args.rng.0 _ _ _ c.pluck_note.ensures.string_after fits in
    rw c.in-Pluck.is (record { result_value = c.pluck_note.ensures.result_value; out_after = c.pluck_note.ensures.out_after; string_unchanged = kept })

pub piano_note-requires : goal.piano_note-requires
piano_note-requires c =
    record {
      rate = c.requires.rate;
      reaches = c.requires.reaches;
      frames = c.requires.frames;
    }

pub shape_of-out-in-Piano : goal.shape_of-out-in-Piano
shape_of-out-in-Piano c = c.piano_note.auto.out

pub returns-in-Piano : goal.returns-in-Piano
unfolding draws_of wave_frames
returns-in-Piano c = rw c.in-Piano.is (record { result_value = c.piano_note.ensures.result_value; out_after = c.piano_note.ensures.out_after; string_unchanged = refl })

pub epiano_note-requires : goal.epiano_note-requires
epiano_note-requires c =
    record {
      reaches = c.requires.reaches;
      frames = c.requires.frames;
    }

pub organ_note-requires : goal.organ_note-requires
organ_note-requires c =
    record {
      reaches = c.requires.reaches;
      frames = c.requires.frames;
    }

pub strings_note-requires : goal.strings_note-requires
strings_note-requires c =
    record {
      reaches = c.requires.reaches;
      frames = c.requires.frames;
    }

pub brass_note-requires : goal.brass_note-requires
brass_note-requires c =
    record {
      reaches = c.requires.reaches;
      frames = c.requires.frames;
    }

pub flute_note-requires : goal.flute_note-requires
flute_note-requires c =
    record {
      reaches = c.requires.reaches;
      frames = c.requires.frames;
    }

pub shape_of-out-in-Flute : goal.shape_of-out-in-Flute
shape_of-out-in-Flute c = c.flute_note.auto.out

pub returns-in-Flute : goal.returns-in-Flute
unfolding draws_of wave_frames
returns-in-Flute c =
    rw c.in-Flute.is (record { result_value = c.flute_note.ensures.result_value; out_after = rw c.nearest_u32_to_f32-srf.ensures at c.flute_note.ensures.out_after; string_unchanged = refl })

pub mallet_note-requires : goal.mallet_note-requires
mallet_note-requires c =
    record {
      reaches = c.requires.reaches;
      frames = c.requires.frames;
    }

pub bell_note-requires : goal.bell_note-requires
bell_note-requires c =
    record {
      reaches = c.requires.reaches;
      frames = c.requires.frames;
    }

pub bass_note-requires : goal.bass_note-requires
bass_note-requires c =
    record {
      reaches = c.requires.reaches;
      frames = c.requires.frames;
    }

pub at-requires : goal.at-requires
at-requires c =
    reaches_less c.args.pitch _ _ _ c.requires.reaches (omega (arith, c.requires.out_nonzero))

pub kit_drum-requires : goal.kit_drum-requires
kit_drum-requires c =
    record {
      rate = c.requires.rate;
      frames = c.requires.frames;
    }

pub shape_of-out-in-Kit : goal.shape_of-out-in-Kit
shape_of-out-in-Kit c = c.kit_drum.auto.out

pub returns-in-Kit : goal.returns-in-Kit
unfolding draws_of wave_frames
returns-in-Kit c =
    let out = rw c.at.ensures at c.kit_drum.ensures.out_after in
    let left = rw c.at.ensures at c.kit_drum.ensures.result_value in
    rw c.in-Kit.is (record { result_value = left; out_after = out; string_unchanged = refl })

pub cowbell-requires : goal.cowbell-requires
cowbell-requires c =
    record {
      reaches = c.requires.reaches;
      frames = c.requires.frames;
    }

pub shape_of-out-in-Square : goal.shape_of-out-in-Square
shape_of-out-in-Square c = c.square.auto.out

pub returns-in-Square : goal.returns-in-Square
unfolding draws_of wave_frames
returns-in-Square c =
    let undrawn : c.args.rng.0 ≡ state_after c.args.rng.0 0 = sym (state_none _ (omega arith)) in
    let note = rw c.nearest_u32_to_f32-srf.ensures at c.square.ensures in rw c.in-Square.is (record { result_value = undrawn; out_after = note; string_unchanged = refl })

pub shape_of-out-in-Triangle : goal.shape_of-out-in-Triangle
shape_of-out-in-Triangle c = c.triangle.auto.out

pub returns-in-Triangle : goal.returns-in-Triangle
unfolding draws_of wave_frames
returns-in-Triangle c =
    let undrawn : c.args.rng.0 ≡ state_after c.args.rng.0 0 = sym (state_none _ (omega arith)) in
    let note = rw c.nearest_u32_to_f32-srf.ensures at c.triangle.ensures in rw c.in-Triangle.is (record { result_value = undrawn; out_after = note; string_unchanged = refl })

pub shape_of-out-in-Sawtooth : goal.shape_of-out-in-Sawtooth
shape_of-out-in-Sawtooth c = c.sawtooth.auto.out

pub returns-in-Sawtooth : goal.returns-in-Sawtooth
unfolding draws_of wave_frames
returns-in-Sawtooth c =
    let undrawn : c.args.rng.0 ≡ state_after c.args.rng.0 0 = sym (state_none _ (omega arith)) in
    let note = rw c.nearest_u32_to_f32-srf.ensures at c.sawtooth.ensures in rw c.in-Sawtooth.is (record { result_value = undrawn; out_after = note; string_unchanged = refl })

pub shape_of-out-in-Sine : goal.shape_of-out-in-Sine
shape_of-out-in-Sine c = c.sine.auto.out

pub returns-in-Sine : goal.returns-in-Sine
unfolding draws_of wave_frames
returns-in-Sine c =
    let undrawn : c.args.rng.0 ≡ state_after c.args.rng.0 0 = sym (state_none _ (omega arith)) in
    let note = rw c.nearest_u32_to_f32-srf.ensures at c.sine.ensures in rw c.in-Sine.is (record { result_value = undrawn; out_after = note; string_unchanged = refl })

pub shape_of-out-in-Fm : goal.shape_of-out-in-Fm
shape_of-out-in-Fm c = c.fm.auto.out

pub returns-in-Fm : goal.returns-in-Fm
unfolding draws_of wave_frames
returns-in-Fm c =
    let undrawn : c.args.rng.0 ≡ state_after c.args.rng.0 0 = sym (state_none _ (omega arith)) in
    let note = rw c.nearest_u32_to_f32-srf.ensures at c.fm.ensures in rw c.in-Fm.is (record { result_value = undrawn; out_after = note; string_unchanged = refl })

pub shape_of-out-in-Epiano : goal.shape_of-out-in-Epiano
shape_of-out-in-Epiano c = c.epiano_note.auto.out

pub returns-in-Epiano : goal.returns-in-Epiano
unfolding draws_of wave_frames
returns-in-Epiano c =
    let undrawn : c.args.rng.0 ≡ state_after c.args.rng.0 0 = sym (state_none _ (omega arith)) in
    let note = rw c.nearest_u32_to_f32-srf.ensures at c.epiano_note.ensures in rw c.in-Epiano.is (record { result_value = undrawn; out_after = note; string_unchanged = refl })

pub shape_of-out-in-Organ : goal.shape_of-out-in-Organ
shape_of-out-in-Organ c = c.organ_note.auto.out

pub returns-in-Organ : goal.returns-in-Organ
unfolding draws_of wave_frames
returns-in-Organ c =
    let undrawn : c.args.rng.0 ≡ state_after c.args.rng.0 0 = sym (state_none _ (omega arith)) in
    let note = rw c.nearest_u32_to_f32-srf.ensures at c.organ_note.ensures in rw c.in-Organ.is (record { result_value = undrawn; out_after = note; string_unchanged = refl })

pub shape_of-out-in-Strings : goal.shape_of-out-in-Strings
shape_of-out-in-Strings c = c.strings_note.auto.out

pub returns-in-Strings : goal.returns-in-Strings
unfolding draws_of wave_frames
returns-in-Strings c =
    let undrawn : c.args.rng.0 ≡ state_after c.args.rng.0 0 = sym (state_none _ (omega arith)) in
    let note = rw c.nearest_u32_to_f32-srf.ensures at c.strings_note.ensures in rw c.in-Strings.is (record { result_value = undrawn; out_after = note; string_unchanged = refl })

pub shape_of-out-in-Brass : goal.shape_of-out-in-Brass
shape_of-out-in-Brass c = c.brass_note.auto.out

pub returns-in-Brass : goal.returns-in-Brass
unfolding draws_of wave_frames
returns-in-Brass c =
    let undrawn : c.args.rng.0 ≡ state_after c.args.rng.0 0 = sym (state_none _ (omega arith)) in
    let note = rw c.nearest_u32_to_f32-srf.ensures at c.brass_note.ensures in rw c.in-Brass.is (record { result_value = undrawn; out_after = note; string_unchanged = refl })

pub shape_of-out-in-Mallet : goal.shape_of-out-in-Mallet
shape_of-out-in-Mallet c = c.mallet_note.auto.out

pub returns-in-Mallet : goal.returns-in-Mallet
unfolding draws_of wave_frames
returns-in-Mallet c =
    let undrawn : c.args.rng.0 ≡ state_after c.args.rng.0 0 = sym (state_none _ (omega arith)) in
    let note = rw c.nearest_u32_to_f32-srf.ensures at c.mallet_note.ensures in rw c.in-Mallet.is (record { result_value = undrawn; out_after = note; string_unchanged = refl })

pub shape_of-out-in-Bell : goal.shape_of-out-in-Bell
shape_of-out-in-Bell c = c.bell_note.auto.out

pub returns-in-Bell : goal.returns-in-Bell
unfolding draws_of wave_frames
returns-in-Bell c =
    let undrawn : c.args.rng.0 ≡ state_after c.args.rng.0 0 = sym (state_none _ (omega arith)) in
    let note = rw c.nearest_u32_to_f32-srf.ensures at c.bell_note.ensures in rw c.in-Bell.is (record { result_value = undrawn; out_after = note; string_unchanged = refl })

pub shape_of-out-in-Bass : goal.shape_of-out-in-Bass
shape_of-out-in-Bass c = c.bass_note.auto.out

pub returns-in-Bass : goal.returns-in-Bass
unfolding draws_of wave_frames
returns-in-Bass c =
    let undrawn : c.args.rng.0 ≡ state_after c.args.rng.0 0 = sym (state_none _ (omega arith)) in
    let note = rw c.nearest_u32_to_f32-srf.ensures at c.bass_note.ensures in rw c.in-Bass.is (record { result_value = undrawn; out_after = note; string_unchanged = refl })

pub shape_of-out-in-Cowbell : goal.shape_of-out-in-Cowbell
shape_of-out-in-Cowbell c = c.cowbell.auto.out

pub returns-in-Cowbell : goal.returns-in-Cowbell
unfolding draws_of wave_frames
returns-in-Cowbell c =
    let undrawn : c.args.rng.0 ≡ state_after c.args.rng.0 0 = sym (state_none _ (omega arith)) in
    let note = rw c.nearest_u32_to_f32-srf.ensures at c.cowbell.ensures in rw c.in-Cowbell.is (record { result_value = undrawn; out_after = note; string_unchanged = refl })
