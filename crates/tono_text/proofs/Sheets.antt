-- The numbers that C gets of a cue sheet. Assumes nothing.
use Prim.Native.Nat.{ℕ}
use mathlib.Core.Path.{◌≡◌, sym, ap, ◌∙◌}
use mathlib.Core.List.{List}
use lib.ListN.{length}
use lib.IntN.{ℤ, pos, neg_ℤ}
use Rattle.text_sheet.specs.TextSheet.{SheetResult, refused, accepted, text_sheet, answer_of, SheetPrinted}
use Rattle.std.specs.Prelude.{Err, Ok, Result}
use Rattle.tono_text.specs.CueSheet.{sheet_return, SheetReturned}

length_said : (r : SheetResult) (n : ℕ) → Ok n ≡ answer_of r → pos n ≡ sheet_return r
length_said (refused number) n e = cc
length_said (accepted sheet) n e = let z : n ≡ length sheet = cc in ap pos z

number_said : (r : SheetResult) (n : ℕ) → Err n ≡ answer_of r → neg_ℤ (pos n) ≡ sheet_return r
number_said (refused number) n e = let z : n ≡ number = cc in ap (λ (k : ℕ). neg_ℤ (pos k)) z
number_said (accepted sheet) n e = cc

module _ (score : List ℕ) {page₀ page : List ℕ} {said : Result ℕ ℕ} (h : SheetPrinted (text_sheet score (length page₀)) page₀ said page) where
  pub length_returned : (n : ℕ) → said ≡ Ok n → {z : ℤ} → z ≡ pos n → SheetReturned score page₀ z page
  length_returned n e i = record { answer = i ∙ length_said (text_sheet score (length page₀)) n (sym e ∙ h.answer); bytes = h.bytes }

  pub refusal_returned : (n : ℕ) → said ≡ Err n → {z : ℤ} → z ≡ neg_ℤ (pos n) → SheetReturned score page₀ z page
  refusal_returned n e i = record { answer = i ∙ number_said (text_sheet score (length page₀)) n (sym e ∙ h.answer); bytes = h.bytes }
