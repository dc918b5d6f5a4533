-- `score_notes::play_note` meets its contract. Assumes nothing.
use mathlib.Core.Path.{refl, sym, ap, ◌∙◌}
use native.Mathlib.Omega.{arith}
use Rattle.dsl.proofs.Cases.{no_note_left}
use Rattle.score.specs.Score.{Score, score_of}
use Rattle.score.specs.Refusals.{note_refusal}
use Rattle.score.proofs.Accepted.{no_note, accepted_score, fine_in, place_asks}
use Rattle.score_notes.proofs.Sounding.{skipped_counted, sound_asks, sounded_counted}
use borrow.Author.Rules.{rules}
use Rattle.score_notes.proofs.play_note.Goals as goal

pub returns-in_default : goal.returns-in_default
returns-in_default c =
    let score_in_start : Score = score_of c.args.seq c.args.notes.now c.args.lane.now c.args.lent in
    let s = score_in_start in
    let none = (accepted_score s c.requires.lent_value).clean _ c.requires.k_in_bounds in
    absurd (no_note s _ (no_note_left c.note_at.result c.in_default.not-Note) (ap (note_refusal s) c.note_at.ensures ∙ none))

pub place_note-place-requires : goal.place_note-place-requires
place_note-place-requires c =
    let score_in_start : Score = score_of c.args.seq c.args.notes.now c.args.lane.now c.args.lent in
    (let whole = place_asks score_in_start c.requires.lent_value _ c.requires.k_in_bounds _ (sym c.note_at.ensures ∙ c.in-Note.is) in record { frames = whole.0; numeric = whole.1 })

pub returns-then-place-n : goal.returns-then-place-n
returns-then-place-n c =
    let score_in_start : Score = score_of c.args.seq c.args.notes.now c.args.lane.now c.args.lent in
    let is = sym c.note_at.ensures ∙ c.in-Note.is in
    let r = skipped_counted score_in_start _ _ _ is c.place_note-place.ensures c.if-place-n.true c.args.rng.0 (omega (arith, c.well_formed.0)) c.args.out.now in
    record {
      value = r.0;
      out_after = r.1;
      note_buf_unchanged = refl;
      string_unchanged = refl;
    }

pub sound_counted-requires : goal.sound_counted-requires
sound_counted-requires c =
    let score_in_start : Score = score_of c.args.seq c.args.notes.now c.args.lane.now c.args.lent in
    let fit = (accepted_score score_in_start c.requires.lent_value).fit in
    let is = sym c.note_at.ensures ∙ c.in-Note.is in
    let q = sound_asks score_in_start _ _ _ is c.place_note-place.ensures c.if-place-n.false fit (fine_in score_in_start c.requires.lent_value _ c.requires.k_in_bounds _ is) in
    let n = c.requires.out_len in
    let room = c.requires.note_buf_len in
    let string = c.requires.string_len in
    record {
      rate = fit.rate;
      frames = rw n fit.frames;
      sounded_nonzero = q.0;
      sounded_in_bounds = rw n q.1.0;
      frames_2 = q.1.1.0;
      reaches = q.1.1.1;
      out_in_bounds = rw (n, room) fit.buffered;
      in_bounds = rw string fit.stringed;
    }

pub returns : goal.returns
returns c =
    let score_in_start : Score = score_of c.args.seq c.args.notes.now c.args.lane.now c.args.lent in
    let is = sym c.note_at.ensures ∙ c.in-Note.is in
    let r = sounded_counted score_in_start _ _ _ is c.place_note-place.ensures c.if-place-n.false _ _ _ _ c.sound_counted.ensures.value c.sound_counted.ensures.out_after in
    record {
      value = r.0;
      out_after = r.1;
      note_buf_unchanged = rw c.requires.out_len at c.sound_counted.ensures.note_buf_unchanged;
      string_unchanged = c.sound_counted.ensures.string_unchanged;
    }
