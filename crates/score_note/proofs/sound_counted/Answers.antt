-- `score_note::sound_counted` meets its contract. Assumes nothing.
use Prim.Native.Nat.{ℕ, ◌≤◌}
use mathlib.Core.Path.{◌≡◌, refl, sym, ap, ◌∙◌}
use native.Mathlib.Omega.{arith}
use lib.ListN.{length, drop, length-append}
use lib.Seq.{length-take-le, take_at}
use lib.Ieee.{Float}
use Rattle.dsl.specs.Pitch.{value_at, reading, pitch_at, reaches}
use Rattle.dsl.specs.declared.pitch.Pitch.TheVariants.{Const}
use Rattle.dsl.proofs.Reach.{reaches_less}
use Rattle.laws.proofs.Parts.{kept_past}
use borrow.Author.Rules.{rules}
-- the note's frames fit the note buffer
use Rattle.score_note.proofs.sound_counted.Goals as goal

-- the duty, a number, can be read in as many frames as the pitch
level_reached : (x : Float) (l n : ℕ) → n ≤ 16777216 → reaches (reading (Const x) 1) l n
level_reached x l n few = record { is = refl; least = omega arith; most = omega arith; few = few; within = refl }

pub new-reading-requires : goal.new-reading-requires
new-reading-requires c = c.requires.reaches.least

pub slice_bounds-sig-end : goal.slice_bounds-sig-end
slice_bounds-sig-end c =
    let fits_in : c.args.place.sounded ≤ length c.args.note_buf.now = omega arith in
    fits_in

pub slice_bounds-sig-end-2 : goal.slice_bounds-sig-end-2
slice_bounds-sig-end-2 c =
    let fits_in : c.args.place.sounded ≤ length c.args.note_buf.now = omega arith in
    let a = c.args in
    let fits = fits_in in
    sym (length-take-le a.place.sounded a.note_buf.now fits)

pub voice_note-after-requires : goal.voice_note-after-requires
voice_note-after-requires c =
    let fits_in : c.args.place.sounded ≤ length c.args.note_buf.now = omega arith in
    let a = c.args in
    let fits = fits_in in
    let e = length-take-le a.place.sounded a.note_buf.now fits in
    record {
      rate = c.requires.rate;
      out_nonzero = rw e c.requires.sounded_nonzero;
      frames = record { most = omega (arith, e, c.requires.frames.most, c.requires.sounded_in_bounds) };
      in_bounds = c.requires.in_bounds;
      reaches = rw (
        c.new-reading.ensures,
        e,
      ) c.requires.reaches;
      reaches_2 = rw (c.new-duty.ensures, e) (level_reached _ _ _ c.requires.reaches.few);
    }

pub slice_bounds-sig-end-3 : goal.slice_bounds-sig-end-3
slice_bounds-sig-end-3 c =
    let fits_in : c.args.place.sounded ≤ length c.args.note_buf.now = omega arith in
    let a = c.args in
    let fits = fits_in in
    let v = c.voice_note-after in
    let len : length v.new.out ≡ a.place.sounded = v.auto.out ∙ length-take-le a.place.sounded a.note_buf.now fits in
    omega (arith, len, length-append v.new.out (drop a.place.sounded a.note_buf.now))

pub slice_bounds-sig-end-4 : goal.slice_bounds-sig-end-4
slice_bounds-sig-end-4 c =
    let fits_in : c.args.place.sounded ≤ length c.args.note_buf.now = omega arith in
    let a = c.args in
    let fits = fits_in in
    let v = c.voice_note-after in
    let len : length v.new.out ≡ a.place.sounded = v.auto.out ∙ length-take-le a.place.sounded a.note_buf.now fits in
    sym (ap length (take_at v.new.out (drop a.place.sounded a.note_buf.now) a.place.sounded len) ∙ len)

pub mix_at-requires : goal.mix_at-requires
mix_at-requires c =
    let fits_in : c.args.place.sounded ≤ length c.args.note_buf.now = omega arith in
    let a = c.args in
    let fits = fits_in in
    let v = c.voice_note-after in
    let len : length v.new.out ≡ a.place.sounded = v.auto.out ∙ length-take-le a.place.sounded a.note_buf.now fits in
    let e = ap length (take_at v.new.out (drop a.place.sounded a.note_buf.now) a.place.sounded len) ∙ len in
    record {
      rate = c.requires.rate;
      note_in_bounds = rw e c.requires.sounded_in_bounds;
      frames = record { most = omega (arith, e, c.requires.frames.most, c.requires.sounded_in_bounds) };
      frames_2 = c.requires.frames_2;
    }

-- the first pitch can be read
pub at-requires : goal.at-requires
at-requires c =
    rw c.new-reading.ensures (reaches_less _ _ _ 1 c.requires.reaches (omega (arith, c.requires.sounded_nonzero)))

pub returns : goal.returns
unfolding value_at pitch_at
returns c =
    let fits_in : c.args.place.sounded ≤ length c.args.note_buf.now = omega arith in
    let a = c.args in
    let fits = fits_in in
    let v = c.voice_note-after in
    let len : length v.new.out ≡ a.place.sounded = v.auto.out ∙ length-take-le a.place.sounded a.note_buf.now fits in
    let took = length-take-le a.place.sounded a.note_buf.now fits in
    let heard = take_at v.new.out (drop a.place.sounded a.note_buf.now) a.place.sounded len in
    let state = rw (took, c.new-reading.ensures) at v.ensures.result_value in
    let count = rw (c.at.ensures, c.new-reading.ensures) at c.draw_count-e.ensures in
    record {
      value = (λ j. record { rng = record { 0 = state j }; draws = count j });
      out_after = c.mix_at.ensures ∙ rw (heard, v.ensures.out_after, took, c.new-reading.ensures, c.new-duty.ensures);
      note_buf_unchanged = kept_past (length a.out.now) v.new.out a.note_buf.now a.place.sounded len (omega (arith, c.requires.sounded_in_bounds));
      string_unchanged = v.ensures.string_unchanged;
    }
