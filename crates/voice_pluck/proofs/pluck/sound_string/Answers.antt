-- `voice_pluck::pluck::sound_string` meets its contract: the first values of the string are lent twice. Assumes nothing.
use Rattle.std.proofs.Common.{sym, arith, length-take-le, rules}
use Rattle.voice_pluck.proofs.Lent.{state_drawn, lent_length, frames_rung, string_rung}
use Rattle.voice_pluck.proofs.pluck.sound_string.Goals as goal

pub slice_bounds-noise-end-2 : goal.slice_bounds-noise-end-2
slice_bounds-noise-end-2 c = sym (length-take-le _ _ c.requires.period_in_bounds)

pub slice_bounds-ring_string-end-2 : goal.slice_bounds-ring_string-end-2
slice_bounds-ring_string-end-2 c =
    lent_length c.args.string.now _ _ c.requires.period_in_bounds c.noise-after.ensures.out_after

pub ring_string-requires : goal.ring_string-requires
ring_string-requires c =
    record {
      string_nonzero = omega (arith, lent_length c.args.string.now _ _ c.requires.period_in_bounds c.noise-after.ensures.out_after, c.requires.period_nonzero);
      frames = c.requires.frames;
    }

pub returns : goal.returns
returns c =
    let l = c.args.string.now in
    let fits = c.requires.period_in_bounds in
    let tuned = c.guitar_timbre-g.ensures in
    record {
      out_after = frames_rung l _ _ fits c.noise-after.ensures.out_after _ _ _ _ tuned c.ring_string.ensures.out_after;
      string_after = string_rung l _ _ fits c.noise-after.ensures.out_after _ _ _ _ tuned c.ring_string.ensures.string_after;
      result_value = state_drawn l _ _ fits c.noise-after.ensures.result_value;
    }
