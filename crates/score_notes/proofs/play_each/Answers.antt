-- `score_notes::play_each` meets its contract. Assumes nothing.
use mathlib.Core.Path.{sym, ◌∙◌}
use native.Mathlib.Nat.{mod-eq_of_lt}
use native.Mathlib.Omega.{arith}
use Rattle.score_notes.proofs.Order.{playing_none, playing_fits, playing_more, playing_end}
use Rattle.score_notes.proofs.play_each.Goals as goal

pub loop-k-init : goal.loop-k-init
loop-k-init c = playing_none c.requires.from_in_bounds c.requires.out_len c.requires.note_buf_len c.requires.string_len

pub play_note-played-requires : goal.play_note-played-requires
play_note-played-requires c =
    let h = c.loop-k.invariant in
    record {
      lent_value = c.requires.lent_value;
      k_in_bounds = omega (arith, c.requires.to_in_bounds);
      out_len = h.room;
      note_buf_len = h.buffered;
      string_len = h.stringed;
    }

pub loop-k-preserved : goal.loop-k-preserved
loop-k-preserved c =
    let h = c.loop-k.invariant in
    let v = c.play_note-played in
    let e = v.ensures in
    playing_more h (omega arith) e.value (λ few. mod-eq_of_lt (playing_fits h (omega arith) e.value few)) e.out_after v.auto.out v.auto.note_buf v.auto.string e.note_buf_unchanged
    e.string_unchanged

pub shape_of-out : goal.shape_of-out
shape_of-out c = c.loop-k.invariant.room ∙ sym c.requires.out_len

pub shape_of-note_buf : goal.shape_of-note_buf
shape_of-note_buf c = c.loop-k.invariant.buffered ∙ sym c.requires.note_buf_len

pub shape_of-string : goal.shape_of-string
shape_of-string c = c.loop-k.invariant.stringed ∙ sym c.requires.string_len

pub returns : goal.returns
returns c =
    let h = playing_end c.loop-k.invariant (omega arith) in
    record {
      state = h.state;
      draws = h.drawn;
      out_after = h.frames;
      note_buf_unchanged = h.buffer_kept;
      string_unchanged = h.string_kept;
    }
