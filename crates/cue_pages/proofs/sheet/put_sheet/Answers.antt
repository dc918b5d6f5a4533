-- `cue_pages::sheet::put_sheet` meets its contract. The loop's invariant is `Sheeting`. Assumes nothing.
use Prim.Native.Nat.{◌-◌, ◌/◌}
use mathlib.Core.Path.{◌≡◌, refl}
use native.Mathlib.Omega.{arith}
use lib.ListN.{length}
use Rattle.score.specs.Score.{score_of}
use borrow.Author.Rules.{rules}
use Rattle.cue_pages.proofs.Sheets.{Sheeting, sheeting_none, after_fits, line_room, sheeting_more, sheeting_all, call_fine}
use Rattle.cue_pages.proofs.sheet.put_sheet.Goals as goal

pub loop-k-init : goal.loop-k-init
loop-k-init c = (sheeting_none c.requires.draw_value c.requires.room, refl)

pub note_draws-draws-requires : goal.note_draws-draws-requires
note_draws-draws-requires c =
    record {
      lent_value = call_fine _ _ c.loop-k.invariant.0.fine;
      k_in_bounds = omega arith;
    }

pub overflow_add-after : goal.overflow_add-after
overflow_add-after c = let h = after_fits c.loop-k.invariant.0 (omega arith) c.note_draws-draws.ensures in record { fits = omega arith }

pub cue_at-cue-requires : goal.cue_at-cue-requires
cue_at-cue-requires c =
    record {
      lent_value = call_fine _ _ c.loop-k.invariant.0.fine;
      k_in_bounds = omega arith;
      draws_value = c.note_draws-draws.ensures;
    }

pub put_note-at-requires : goal.put_note-at-requires
put_note-at-requires c = line_room c.loop-k.invariant.0 (omega arith) c.cue_at-cue.ensures

pub loop-k-preserved : goal.loop-k-preserved
loop-k-preserved c =
    (sheeting_more c.loop-k.invariant.0 (omega arith) c.cue_at-cue.ensures c.note_draws-draws.ensures c.put_note-at.auto.page c.put_note-at.ensures, refl)

pub shape_of-page : goal.shape_of-page
shape_of-page c = c.loop-k.invariant.0.same

pub returns : goal.returns
returns c = sheeting_all c.loop-k.invariant.0 (omega arith)
