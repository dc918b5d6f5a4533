-- `voice_piano::piano::piano_note` meets its contract: each call by what it ensures. Assumes nothing.
use Rattle.std.proofs.Common.{ap, ◌∙◌, arith, rules}
use Rattle.rng.specs.SplitMix64.{state_after}
use Rattle.counts.proofs.Thump.{thump_count}
use Rattle.dsl.proofs.Reach.{reaches_less}
use Rattle.voice_piano.specs.Piano.{piano_frames}
use Rattle.voice_piano.proofs.Sound.{no_frames, no_draws}
use Rattle.voice_piano.proofs.piano.piano_note.Goals as goal

pub returns-then-out-eq0 : goal.returns-then-out-eq0
returns-then-out-eq0 c =
    record {
      out_after = no_frames _ _ _ _ _ _ c.if-out-eq0.true;
      result_value = no_draws _ _ _ (omega arith) c.if-out-eq0.true;
    }

pub at-requires : goal.at-requires
at-requires c = reaches_less c.args.pitch _ _ _ c.requires.reaches (omega arith)

pub sound_piano-requires : goal.sound_piano-requires
sound_piano-requires c =
    record {
      reaches = c.requires.reaches;
      frames = c.requires.frames;
      count_bound = c.piano_partials-ps.ensures.0;
    }

pub returns : goal.returns
unfolding piano_frames
returns c =
    let srf = c.nearest_u32_to_f32-srf.ensures in
    let partials = c.piano_partials-ps.ensures.1 in
    let frames =
    rw (
      c.string_pair-det.ensures,
      c.loudness-norm.ensures,
      partials,
      c.hammer_blow.ensures,
      c.at.ensures,
      srf,
    ) at c.sound_piano.ensures.out_after in
    record {
      out_after = frames;
      result_value = (rw srf at c.sound_piano.ensures.result_value) ∙ ap (state_after c.args.rng.0) (thump_count c.args.rate _ c.requires.rate c.requires.frames.most);
    }
