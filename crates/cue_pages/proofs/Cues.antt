-- What a note's line shows, by what code knows of the note. Assumes nothing.
use Prim.Native.Nat.{ℕ, ◌≤◌}
use mathlib.Core.Path.{◌≡◌, refl, sym, ap}
use mathlib.Core.Bool.{false}
use borrow.Author.Tests.{le-leb}
use Rattle.laws.proofs.If.{if_true, if_false}
use Rattle.dsl.specs.declared.note.SeqNote.{SeqNote}
use Rattle.dsl.specs.declared.note.Decoded.{Decoded}
use Rattle.dsl.specs.declared.note.Decoded.TheVariants.{Note}
use Rattle.dsl.proofs.Cases.{NoNote}
use Rattle.score.specs.Score.{Score, wave_in, place, skips, note_draws}
use Rattle.cue_line.specs.declared.line.Cue.{Cue}
use Rattle.std.specs.Prelude.{Some}
use Rattle.cue_pages.specs.Sheet.{skipped_cue, note_cue, cue_of}

module _ (s : Score) (k first : ℕ) where
  pub cue_other : (e : Decoded) → NoNote e → skipped_cue (wave_in s) k 0 ≡ cue_of s k first e
  unfolding cue_of
  cue_other e none = sym (none.other (skipped_cue (wave_in s) k 0) (note_cue s k first))

  module _ (m : SeqNote) where
    pub cue_skipped : s.n ≤ (place s m).start → skipped_cue (wave_in s) k m.step ≡ cue_of s k first (Note m)
    unfolding cue_of
    cue_skipped late = if_true _ (le-leb _ _ late) refl

    -- the draws as the code has them
    abbrev sounding : ℕ → Cue
    sounding draws = record {
      place = k;
      step = m.step;
      start = Some (place s m).start;
      sounded = (place s m).sounded;
      wave = wave_in s;
      first = Some first;
      draws = draws;
    }

    pub cue_sounded : skips s m ≡ false → {draws : ℕ} → draws ≡ note_draws s (Note m) → sounding draws ≡ cue_of s k first (Note m)
    unfolding cue_of note_draws
    cue_sounded heard e = if_false _ heard (ap sounding e)
