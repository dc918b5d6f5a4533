-- `score_notes::play_counted` meets its contract. Assumes nothing.
use Prim.Native.Nat.{ℕ}
use mathlib.Core.Path.{ap, ◌∙◌}
use native.Mathlib.Omega.{arith}
use Rattle.mix.specs.Mix.{silence}
use Rattle.score.specs.Score.{Score, score_of}
use Rattle.score_notes.proofs.Order.{at_start, silent_start, all_frames, all_drawn}
use Rattle.score_notes.proofs.play_counted.Goals as goal

pub returns : goal.returns
returns c =
    let s : Score = score_of c.args.seq c.args.notes.now c.args.lane.now c.args.lent in
    let g : ℕ = c.args.rng.0 in
    let start = at_start s g (omega (arith, c.well_formed.0)) in
    let silent = silent_start s g (c.clear.ensures ∙ ap silence c.requires.out_len) in
    let e = c.play_each.ensures in
    record {
      value = all_drawn s g (e.state g start) e.draws c.requires.lent_bound (omega arith);
      out_after = all_frames s g (e.out_after g start silent) (omega arith);
      note_buf_unchanged = e.note_buf_unchanged;
      string_unchanged = e.string_unchanged;
    }
