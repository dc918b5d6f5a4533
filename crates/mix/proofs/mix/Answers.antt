-- `mix::mix` meets its contract: the four stretches are the law `staged_by_envelope`. Assumes nothing.
use Rattle.std.proofs.Common.{refl, arith, rules}
use Rattle.mix.proofs.StagedByEnvelope.{staged_by_envelope}
use Rattle.mix.proofs.mix.Goals as goal

pub mix_stage-requires : goal.mix_stage-requires
mix_stage-requires c =
    let ends = c.adsr-ends.ensures in
    record {
      from_le_to = omega arith;
      to_in_bounds = omega (arith, ends.attack_most, ends.decay_most, ends.sustain_most);
      note_in_bounds = c.requires.note_in_bounds;
      frames = c.requires.frames;
      in_stage = ends.attack;
    }

pub mix_stage-requires-2 : goal.mix_stage-requires-2
mix_stage-requires-2 c =
    let ends = c.adsr-ends.ensures in
    record {
      from_le_to = ends.attack_most;
      to_in_bounds = omega (arith, ends.decay_most, ends.sustain_most);
      note_in_bounds = omega (arith, c.requires.note_in_bounds, c.mix_stage.auto.out);
      frames = c.requires.frames;
      in_stage = ends.decay;
    }

pub mix_stage-requires-3 : goal.mix_stage-requires-3
mix_stage-requires-3 c =
    let ends = c.adsr-ends.ensures in
    record {
      from_le_to = ends.decay_most;
      to_in_bounds = ends.sustain_most;
      note_in_bounds = omega (arith, c.requires.note_in_bounds, c.mix_stage-2.auto.out, c.mix_stage.auto.out);
      frames = c.requires.frames;
      in_stage = ends.sustain;
    }

pub mix_stage-requires-4 : goal.mix_stage-requires-4
mix_stage-requires-4 c =
    let ends = c.adsr-ends.ensures in
    record {
      from_le_to = ends.sustain_most;
      to_in_bounds = omega arith;
      note_in_bounds = omega (arith, c.requires.note_in_bounds, c.mix_stage-3.auto.out, c.mix_stage-2.auto.out, c.mix_stage.auto.out);
      frames = c.requires.frames;
      in_stage = ends.release;
    }

pub returns : goal.returns
returns c =
    let p = c.args in
    let ends = c.adsr-ends.ensures in
    staged_by_envelope p.note.now p.env p.len p.rate p.gain ends.release_is
    c.mix_stage.ensures
    c.mix_stage-2.ensures
    c.mix_stage-3.ensures
    c.mix_stage-4.ensures
    ends.attack_most
    ends.decay_most
    ends.sustain_most
    refl
    c.requires.note_in_bounds
