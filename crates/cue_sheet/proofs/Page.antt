-- What was read and what is written, from the contracts of the read and of the sheet. Assumes nothing.
use Prim.Native.Nat.{ℕ, ◌≤◌, ◌<◌}
use mathlib.Core.Path.{◌≡◌, refl, sym, ap, ◌∙◌}
use mathlib.Core.List.{List}
use native.Mathlib.Omega.{arith}
use lib.ListN.{length, take, drop, length-append}
use lib.Seq.{length-take-le, take_at}
use Rattle.text_judge.proofs.Refused.{refusal_long}
use Rattle.text_listing.specs.Lines.{printed_r}
use Rattle.text_sheet.specs.TextSheet.{SheetResult, refused, accepted, text_sheet, answer_of, page_after, SheetPrinted}
use Rattle.std.specs.Prelude.{Err, Ok, Result}
use Rattle.text_sheet.proofs.Ways.{printed_as}
use Rattle.text_sheet.proofs.Most.{never_short}
use Rattle.cue_sheet.specs.Input.{written, shown, shown_sheet, sheet_lines, InputPrinted, ReadPrinted}

-- what goes out is within the page
fits : (r : SheetResult) (said : Result ℕ ℕ) (page₀ page : List ℕ) → said ≡ answer_of r → page ≡ page_after page₀ r → written said ≤ length page
fits r (Err number) page₀ page e b = omega arith
fits (refused number) (Ok n) page₀ page e b = let z : ◌≡◌ {A = ℕ} 0 1 = cc in absurd (omega arith)
fits (accepted sheet) (Ok n) page₀ page e b =
    let s : n ≡ length sheet = cc in
    omega (arith, ap length b, length-append sheet (drop (length sheet) page₀))

-- and it is the sheet, or the line
shown_is : (r : SheetResult) (said : Result ℕ ℕ) (page₀ page : List ℕ) → said ≡ answer_of r → page ≡ page_after page₀ r → shown said page ≡ shown_sheet r
shown_is (refused k) (Err number) page₀ page e b = let s : number ≡ k = cc in ap printed_r s
shown_is (refused k) (Ok n) page₀ page e b = let z : ◌≡◌ {A = ℕ} 0 1 = cc in absurd (omega arith)
shown_is (accepted sheet) (Err number) page₀ page e b = let z : ◌≡◌ {A = ℕ} 0 1 = cc in absurd (omega arith)
shown_is (accepted sheet) (Ok n) page₀ page e b =
    let s : n ≡ length sheet = cc in
    rw b (take_at sheet (drop (length sheet) page₀) n (sym s))

-- ---- the program
module _ (score page₀ page : List ℕ) (read : ℕ) {said : Result ℕ ℕ} (within : read ≤ length score) (h : SheetPrinted (text_sheet (take read score) (length page₀)) page₀ said page) where
  pub input_printed : 65536 < length score → 18692 ≤ length page₀ → InputPrinted score page₀ said page
  input_printed more room =
      let enough : 18692 ≤ 18692 = omega arith in
      record {
        read = read;
        within = within;
        full = λ e. let l = length-take-le read score within in sym (refusal_long (take read score) (omega arith));
        printed = printed_as (never_short (take read score) (length page₀) room ∙ sym (never_short (take read score) 18692 enough)) h;
      }

  lines_is : shown_sheet (text_sheet (take read score) 18692) ≡ sheet_lines (take read score)
  unfolding sheet_lines
  lines_is = refl

  -- of a count that was read, and what goes out for it
  pub read_printed : 65536 < length score → 18692 ≤ length page₀ → ReadPrinted score read page₀ said page
  read_printed more room =
      let enough : 18692 ≤ 18692 = omega arith in
      let p = printed_as (never_short (take read score) (length page₀) room ∙ sym (never_short (take read score) 18692 enough)) h in
      record {
        within = within;
        full = λ e. let l = length-take-le read score within in sym (refusal_long (take read score) (omega arith));
        printed = p;
        lines = shown_is (text_sheet (take read score) 18692) said page₀ page p.answer p.bytes ∙ lines_is;
      }

  pub written_fits : written said ≤ length page
  written_fits = fits (text_sheet (take read score) (length page₀)) said page₀ page h.answer h.bytes
