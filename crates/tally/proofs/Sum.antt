-- Each frame is the sum in list order: a frame of an accepted score is what its notes, one after another, add to plus zero there. Assumes nothing.
use Prim.Native.Nat.{ℕ, zero, suc, ◌+◌, ◌-◌, ◌≤◌, ◌<◌}
use mathlib.Core.Path.{◌≡◌, refl, sym, ap, ◌∙◌}
use mathlib.Core.List.{List}
use mathlib.Core.Bool.{Bool, true, false, cond}
use native.Mathlib.Omega.{arith}
use native.Mathlib.Nat.{le_refl}
use borrow.Author.Tests.{leb-true, leb-false, ltb-true, ltb-false, lt-leb}
use lib.ListN.{length, get_or}
use lib.Dec.{leb, ltb}
use lib.Ieee.{Float, nan}
use Rattle.dsl.specs.declared.knobs.Adsr.{Adsr}
use Rattle.dsl.specs.declared.note.SeqNote.{SeqNote}
use Rattle.dsl.specs.declared.note.Decoded.{Decoded}
use Rattle.dsl.specs.declared.note.Decoded.TheVariants.{Note}
use Rattle.dsl.proofs.Cases.{NoNote, by_kind}
use Rattle.rng.specs.SplitMix64.{state_after}
use Rattle.voice.proofs.Own.{note_length}
use Rattle.mix.specs.Mix.{gained, mixed_at}
use Rattle.mix.proofs.Mixing.{silence_length, silence_at, mixed_length, mixed_before, mixed_within, mixed_past}
use Rattle.outcome.specs.Answer.{frames_in}
use Rattle.std.specs.Prelude.{Ok}
use Rattle.score.specs.Score.{Score, rate_in, note_in, note_count, place, skips, draws_before}
use Rattle.score.specs.Refusals.{refusal}
use Rattle.score.proofs.Notes.{all_within}
use Rattle.score_contract.specs.Frames.{samples_in, mixed_in, with_note, frames_after, score_frames}
use Rattle.tally.specs.Alone.{alone_of, Alone}
use Rattle.tally.specs.Sum.{among, gained_by, gained_at, frame_after}
use Rattle.tally.proofs.Alone.{alone}

-- ---- one note
-- any frame, after a note that ends within the frames
module _ (start : ℕ) (note : List Float) (env : Adsr) (len rate : ℕ) (gain : Float) (out : List Float) (fits : start + length note ≤ length out) (i : ℕ) where
  by_place : (a b : Bool) → leb start i ≡ a → ltb i (start + length note) ≡ b
      → get_or (mixed_at start note env len rate gain out) i nan ≡ cond (among start (length note) i) (gained note env len rate gain (i - start) (get_or out i nan)) (get_or out i nan)
  by_place false b e f = rw e (mixed_before start note env len rate gain out (leb-false start i e) (omega arith))
  by_place true true e f =
      let z : start + (i - start) ≡ i = omega (arith, leb-true start i e) in
      rw (e, f) (rw z at (mixed_within start note env len rate gain out {j = i - start} fits (omega (arith, leb-true start i e, ltb-true i (start + length note) f))))
  by_place true false e f = rw (e, f) (mixed_past start note env len rate gain out (ltb-false i (start + length note) f) (omega arith))

  mixed_frame : get_or (mixed_at start note env len rate gain out) i nan ≡ cond (among start (length note) i) (gained note env len rate gain (i - start) (get_or out i nan)) (get_or out i nan)
  mixed_frame = by_place (leb start i) (ltb i (start + length note)) refl refl

module _ (s : Score) (m : SeqNote) (g : ℕ) (out : List Float) where
  long : length (samples_in s m g) ≡ (place s m).sounded
  unfolding samples_in
  long = note_length (rate_in s) s.seq.voice m.gain _ _ g (place s m).sounded

  length_by : (b : Bool) → skips s m ≡ b → length (mixed_in s m g out) ≡ length out
  unfolding mixed_in
  length_by true e = rw e
  length_by false e = rw e (mixed_length (place s m).start (samples_in s m g) s.seq.env (place s m).len (rate_in s) (place s m).gain out)

  -- a skipped note starts past every frame, so that no frame is among its own; a sounded one has the note call's samples
  frame_by : (b : Bool) → skips s m ≡ b → (b ≡ false → frames_in (alone_of s m g) ≡ samples_in s m g) → length out ≡ s.n → (i : ℕ) → i < s.n
      → get_or (mixed_in s m g out) i nan ≡ gained_at s (Note m) g i (get_or out i nan)
  unfolding mixed_in gained_at
  frame_by true e own l i h =
      let past : i < (place s m).start = omega (arith, leb-true s.n (place s m).start e) in
      rw (e, lt-leb (place s m).start i past)
  frame_by false e own l i h =
      let p = place s m in
      let fits : p.start + length (samples_in s m g) ≤ length out = omega (arith, all_within s m e, long) in
      rw (e, own refl) (rw long at (mixed_frame p.start (samples_in s m g) s.seq.env p.len (rate_in s) p.gain out fits i))

module _ (s : Score) (g : ℕ) (out : List Float) where
  with_length : (e : Decoded) → length (with_note s e g out) ≡ length out
  unfolding with_note
  with_length = by_kind (λ e. length (with_note s e g out) ≡ length out) (λ m. length_by s m g out (skips s m) refl) (λ e none. ap length (none.other out (λ m. mixed_in s m g out)))

  no_frame : (e : Decoded) → NoNote e → (i : ℕ) → get_or (with_note s e g out) i nan ≡ gained_at s e g i (get_or out i nan)
  unfolding with_note gained_at
  no_frame e none i = ap (λ (l : List Float). get_or l i nan) (none.other out (λ m. mixed_in s m g out))
      ∙ sym (none.other (get_or out i nan) (λ m. gained_by s m (frames_in (alone_of s m g)) i (get_or out i nan)))

-- ---- the first k notes
module _ (s : Score) (seed d : ℕ) where
  pub frames_length : (k : ℕ) → length (frames_after s seed d k) ≡ s.n
  unfolding frames_after
  frames_length zero = silence_length s.n
  frames_length (suc k) = with_length s _ (frames_after s seed d k) (note_in s k) ∙ frames_length k

  module _ (each : Alone s) (i : ℕ) (h : i < s.n) where
    with_frame : (k : ℕ) → k < note_count s → (e : Decoded) → note_in s k ≡ e → (g : ℕ) (out : List Float) → length out ≡ s.n
        → get_or (with_note s e g out) i nan ≡ gained_at s e g i (get_or out i nan)
    unfolding with_note
    with_frame k lt = by_kind
        (λ e. note_in s k ≡ e → (g : ℕ) (out : List Float) → length out ≡ s.n → get_or (with_note s e g out) i nan ≡ gained_at s e g i (get_or out i nan))
        (λ m is g out l. frame_by s m g out (skips s m) refl (λ heard. ap frames_in (each k m g lt is heard)) l i h)
        (λ e none is g out l. no_frame s g out e none i)

    frame_after_lem : (k : ℕ) → k ≤ note_count s → get_or (frames_after s seed d k) i nan ≡ frame_after s seed d i k
    unfolding frames_after frame_after
    frame_after_lem zero le = silence_at s.n i nan h
    frame_after_lem (suc k) le =
        let e = note_in s k in
        let g = state_after seed (d + draws_before s k) in
        with_frame k (omega arith) e refl g (frames_after s seed d k) (frames_length k) ∙ ap (gained_at s e g i) (frame_after_lem k (omega arith))

-- THE THEOREM: frame i of an accepted score
pub frame_is : (s : Score) → refusal s ≡ Ok tt → (seed d i : ℕ) → i < s.n → get_or (score_frames s seed d) i nan ≡ frame_after s seed d i (note_count s)
unfolding score_frames
frame_is s ok seed d i h = frame_after_lem s seed d (alone s ok) i h (note_count s) (le_refl (note_count s))
