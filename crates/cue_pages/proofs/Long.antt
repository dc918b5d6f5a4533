-- How long a sheet is. Assumes nothing.
use Prim.Native.Nat.{ℕ, zero, suc, ◌+◌, ◌-◌, ◌*◌, ◌/◌, ◌%◌, ◌^◌, ◌≤◌, ◌<◌, max}
use mathlib.Core.Path.{◌≡◌, refl}
use mathlib.Core.List.{List, [], ◌∷◌, ◌++◌}
use mathlib.Core.Bool.{Bool, true, false, cond}
use native.Mathlib.Omega.{arith}
use borrow.Author.Tests.{leb-false, lt-ltb, le-ltb, eqb-true, eqb-false}
use lib.Dec.{ltb, eqb}
use lib.ListN.{length, length-append}
use Rattle.dsl.specs.declared.note.SeqNote.{SeqNote}
use Rattle.dsl.specs.declared.note.Decoded.{Decoded}
use Rattle.dsl.specs.declared.wave.SeqWave.{SeqWave}
use Rattle.dsl.proofs.Cases.{by_kind}
use Rattle.draws.proofs.Few.{draws_most}
use Rattle.std.specs.Prelude.{Ok}
use Rattle.score.specs.Score.{Score, rate_in, wave_in, kit_in, note_in, note_count, place, skips, pitch, draws_in, note_draws, draws_before}
use Rattle.score.specs.Refusals.{note_refusal, refusal, refusal_at}
use Rattle.score.proofs.Accepted.{NoteFine, note_fine, accepted_score}
use Rattle.score.proofs.Notes.{all_within, sounded_draws}
use Rattle.text_listing.specs.Digits.{decimal_text}
use Rattle.text_listing.proofs.Numbers.{decimal_length}
use Rattle.cue_line.proofs.Width.{Fitting, line_width}
use Rattle.cue_pages.specs.Sheet.{skipped_cue, sounded_cue, note_cue, cue_of, page_end, note_line, lines_of, sheet_of, sheet_length}
use Rattle.cue_pages.proofs.Sheets.{call_fine, reached_fits}

-- ---- what a line shows fits its columns
digits_most : (k v : ℕ) {width : ℕ} → v < 10 ^ suc k → suc k ≤ width → length (decimal_text v) ≤ width
digits_most k v h l = let d = decimal_length k v h in omega arith

skipped_fits : (wave : SeqWave) (k step : ℕ) → k < 10 ^ 4 → step < 10 ^ 8 → Fitting (skipped_cue wave k step)
skipped_fits wave k step few small =
    record { place = few; step = small; start = omega arith; sounded = omega arith; first = omega arith; draws = omega arith }

module _ (s : Score) (ok : refusal s ≡ Ok tt) (k first : ℕ) (few : k < 10 ^ 4) (reached : first < 2 ^ 64) where
  drawn_most : (m : SeqNote) → skips s m ≡ false → draws_in s m ≤ max s.n 9600
  unfolding note_draws
  drawn_most m heard =
      let w = all_within s m heard in
      let most = draws_most (wave_in s) (kit_in s) (rate_in s) (accepted_score s ok).fit.rate (pitch s m 0) (place s m).sounded in
      omega (arith, sounded_draws s m heard)

  sounded_fits : (m : SeqNote) → NoteFine s m → skips s m ≡ false → Fitting (sounded_cue s k first m)
  sounded_fits m fine heard =
      let most = (accepted_score s ok).fit.frames.most in
      let w = all_within s m heard in
      let late = leb-false s.n (place s m).start heard in
      let drawn = drawn_most m heard in
      record {
        place = few;
        step = omega (arith, fine.step);
        start = digits_most 8 (place s m).start (omega arith) (omega arith);
        sounded = omega arith;
        first = digits_most 19 first (omega arith) (omega arith);
        draws = omega arith;
      }

  note_fits : (m : SeqNote) → NoteFine s m → Fitting (note_cue s k first m)
  note_fits m fine = by (skips s m) refl
    where
      by : (b : Bool) → skips s m ≡ b → Fitting (cond b (skipped_cue (wave_in s) k m.step) (sounded_cue s k first m))
      by true e = skipped_fits (wave_in s) k m.step few (omega (arith, fine.step))
      by false e = sounded_fits m fine e

  cue_fits : (e : Decoded) → note_refusal s e ≡ Ok tt → Fitting (cue_of s k first e)
  unfolding cue_of
  cue_fits = by_kind (λ e. note_refusal s e ≡ Ok tt → Fitting (cue_of s k first e)) (λ m e. note_fits m (note_fine s m e))
      (λ e none fine. rw (none.other (skipped_cue (wave_in s) k 0) (note_cue s k first)) (skipped_fits (wave_in s) k 0 few (omega arith)))

-- ---- the form feeds
abbrev feed : List ℕ
feed = 12 ∷ []

feed_length : (count lines : ℕ) → 0 < lines → length (page_end count lines) + (lines - 1) / 60 ≡ cond (ltb lines count) (lines / 60) ((lines - 1) / 60)
unfolding page_end
feed_length count lines some = by (eqb (lines % 60) 0) (ltb lines count) refl
  where
    by : (b c : Bool) → eqb (lines % 60) 0 ≡ b → length (cond b (cond c feed []) []) + (lines - 1) / 60 ≡ cond c (lines / 60) ((lines - 1) / 60)
    by true true e = let z = eqb-true (lines % 60) 0 e in omega arith
    by true false e = omega arith
    by false true e = let z = eqb-false (lines % 60) 0 e in omega arith
    by false false e = omega arith

-- ---- all lines
module _ (s : Score) (d : ℕ) (fine : refusal_at s d ≡ Ok tt) (few : note_count s ≤ 10000) where
  line_long : (k : ℕ) → k < note_count s → length (note_line s d k) ≡ 73
  line_long k lt =
      let ok = call_fine s d fine in
      line_width _ (cue_fits s ok k (d + draws_before s k) (omega arith) (reached_fits s d fine k (omega arith)) (note_in s k) ((accepted_score s ok).clean k lt))

  lines_long : (k : ℕ) → k < note_count s → length (lines_of s d k) ≡ 73 * k + k / 60
  unfolding lines_of
  lines_long zero lt = omega arith
  lines_long (suc k) lt =
      let a = length-append (lines_of s d k) (note_line s d k ++ page_end (note_count s) (suc k)) in
      let b = length-append (note_line s d k) (page_end (note_count s) (suc k)) in
      let f : length (page_end (note_count s) (suc k)) + (suc k - 1) / 60 ≡ suc k / 60 = rw (lt-ltb (suc k) (note_count s) lt) at (feed_length (note_count s) (suc k) (omega arith)) in
      let l = line_long k (omega arith) in
      omega (arith, lines_long k (omega arith))

  last_long : (m : ℕ) → m ≡ note_count s → length (lines_of s d m) ≡ sheet_length m
  unfolding lines_of
  last_long zero is = omega arith
  last_long (suc k) is =
      let a = length-append (lines_of s d k) (note_line s d k ++ page_end (note_count s) (suc k)) in
      let b = length-append (note_line s d k) (page_end (note_count s) (suc k)) in
      let f : length (page_end (note_count s) (suc k)) + (suc k - 1) / 60 ≡ (suc k - 1) / 60 = rw (le-ltb (suc k) (note_count s) (omega arith)) at (feed_length (note_count s) (suc k) (omega arith)) in
      let l = line_long k (omega arith) in
      omega (arith, lines_long k (omega arith))

  -- THE LAW: 73 bytes a line, and a form feed after each page but the last
  pub sheet_is_long : length (sheet_of s d) ≡ sheet_length (note_count s)
  sheet_is_long = last_long (note_count s) refl

-- the longest: 256 × 73 + 4 bytes
pub longest : (count : ℕ) → count ≤ 256 → sheet_length count ≤ 18692
longest count h = omega arith

pub longest_is : sheet_length 256 ≡ 256 * 73 + 4
longest_is = refl
