-- Use for the loop that prints a sheet: `Sheeting` is its invariant. Assumes nothing.
use Prim.Native.Nat.{ℕ, zero, suc, ◌+◌, ◌-◌, ◌^◌, ◌≤◌, ◌<◌}
use mathlib.Core.Path.{◌≡◌, refl, ap, ◌∙◌}
use mathlib.Core.List.{List, ◌++◌}
use native.Mathlib.Omega.{arith}
use native.Mathlib.Numerals.{add-one}
use borrow.Author.Tests.{ltb-false}
use lib.ListN.{length, length-append}
use Rattle.std.specs.Prelude.{Ok}
use Rattle.outcome.proofs.First.{none_holds, or_fine}
use Rattle.score.specs.Score.{Score, note_in, note_count, note_draws, draws_before, score_draws}
use Rattle.score.specs.Refusals.{refusal, refusal_at}
use Rattle.score.proofs.Notes.{draws_all}
use Rattle.score_draws.proofs.Adding.{draws_more, draws_one}
use Rattle.text_listing.specs.Printed.{Room, Printed}
use Rattle.text_listing.proofs.Put.{printed_none, printed_as, room_next, printed_both}
use Rattle.cue_line.specs.Line.{line_text}
use Rattle.cue_line.specs.declared.line.Cue.{Cue}
use Rattle.cue_pages.specs.Sheet.{cue_of, page_end, note_line, lines_of, sheet_of}

-- ---- a score that is accepted at the draw d
module _ (s : Score) (d : ℕ) (fine : refusal_at s d ≡ Ok tt) where
  pub call_fine : refusal s ≡ Ok tt
  unfolding refusal_at
  call_fine = (or_fine (refusal s) _ fine).0

  pub all_fit : d + score_draws s < 2 ^ 64
  unfolding refusal_at
  all_fit =
      let over = none_holds _ (or_fine (refusal s) _ fine).1 in
      let fits = ltb-false (2 ^ 64 - 1) (d + score_draws s) over.0 in
      omega arith

  -- the count that is reached before note k
  pub reached_fits : (k : ℕ) → k ≤ note_count s → d + draws_before s k < 2 ^ 64
  reached_fits k h =
      let z : k + (note_count s - k) ≡ note_count s = omega arith in
      let most : draws_before s k ≤ draws_before s (note_count s) = rw z at (draws_more s k (note_count s - k)) in
      omega (arith, all_fit, draws_all s)

-- ---- printing
module _ (s : Score) (d : ℕ) where
  lines_more : (k m : ℕ) → length (lines_of s d k) ≤ length (lines_of s d (k + m))
  unfolding lines_of
  lines_more k zero = let z : k + 0 ≡ k = omega arith in rw z (omega arith)
  lines_more k (suc m) =
      let z : k + suc m ≡ suc (k + m) = omega arith in
      let a = length-append (lines_of s d (k + m)) (note_line s d (k + m) ++ page_end (note_count s) (suc (k + m))) in
      rw z (omega (arith, lines_more k m))

  lines_one : (k : ℕ) → lines_of s d k ++ (note_line s d k ++ page_end (note_count s) (k + 1)) ≡ lines_of s d (k + 1)
  unfolding lines_of
  lines_one k = rw add-one refl

-- Before note k.
pub record Sheeting (s : Score) (d : ℕ) (page₀ : List ℕ) (k at first : ℕ) (page : List ℕ) : Type 0 where
  pub within : k ≤ note_count s
  pub fine : refusal_at s d ≡ Ok tt
  pub room : Room (sheet_of s d) 0 page₀
  pub same : length page ≡ length page₀
  pub reached : first ≡ d + draws_before s k
  pub is : Printed (lines_of s d k) 0 page₀ at page

module _ {s : Score} {d : ℕ} {page₀ : List ℕ} where
  pub sheeting_none : refusal_at s d ≡ Ok tt → Room (sheet_of s d) 0 page₀ → Sheeting s d page₀ 0 0 d page₀
  unfolding draws_before lines_of
  sheeting_none f r = record { within = omega arith; fine = f; room = r; same = refl; reached = omega arith; is = printed_none 0 page₀ }

  module _ {k at first : ℕ} {page : List ℕ} (h : Sheeting s d page₀ k at first page) where
    module _ (lt : k < note_count s) where
      -- the count after note k
      pub after_fits : {draws : ℕ} → draws ≡ note_draws s (note_in s k) → first + draws < 2 ^ 64
      after_fits drawn =
          let f = reached_fits s d h.fine (k + 1) (omega arith) in
          let o = draws_one s k in
          omega (arith, h.reached)

      module _ {cue : Cue} (said : cue ≡ cue_of s k first (note_in s k)) where
        abbrev text : List ℕ
        text = line_text cue ++ page_end (note_count s) (k + 1)

        shown : lines_of s d k ++ text ≡ lines_of s d (k + 1)
        shown = ap (λ (c : Cue). lines_of s d k ++ (line_text c ++ page_end (note_count s) (k + 1))) (said ∙ ap (λ (f : ℕ). cue_of s k f (note_in s k)) h.reached) ∙ lines_one s d k

        both_room : Room (lines_of s d k ++ text) 0 page₀
        both_room =
            let z : k + 1 + (note_count s - (k + 1)) ≡ note_count s = omega arith in
            let m : length (lines_of s d (k + 1)) ≤ length (sheet_of s d) = rw z at (lines_more s d (k + 1) (note_count s - (k + 1))) in
            let l : length (lines_of s d k ++ text) ≡ length (lines_of s d (k + 1)) = ap length shown in
            record { fits = omega (arith, h.room.fits) }

        pub line_room : Room text at page
        line_room = room_next (lines_of s d k) text both_room h.is

        pub sheeting_more : {draws : ℕ} → draws ≡ note_draws s (note_in s k) → {next : ℕ} {page₁ : List ℕ} → length page₁ ≡ length page → Printed text at page next page₁
            → Sheeting s d page₀ (k + 1) next (first + draws) page₁
        sheeting_more drawn l p =
            record {
              within = omega arith;
              fine = h.fine;
              room = h.room;
              same = l ∙ h.same;
              reached = omega (arith, h.reached, draws_one s k);
              is = printed_as shown (printed_both (lines_of s d k) text both_room h.is p);
            }

    pub sheeting_all : note_count s ≤ k → Printed (sheet_of s d) 0 page₀ at page
    sheeting_all l = let z : k ≡ note_count s = omega (arith, h.within) in printed_as (ap (lines_of s d) z) h.is
