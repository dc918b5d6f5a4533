-- What `tono_cue_sheet` returns and leaves: the sheet's length or minus the refusal's number; "the page buffer after it stays" (02, Card 7).
use Rattle.std.specs.Prelude.{ℕ, ◌≡◌, List, length, ℤ, pos, neg_ℤ}
use Rattle.text_sheet.specs.TextSheet.{SheetResult, refused, accepted, text_sheet, page_after}

-- the number that C gets
abbrev pub sheet_return : SheetResult → ℤ
sheet_return (refused number) = neg_ℤ (pos number)
sheet_return (accepted sheet) = pos (length sheet)

pub record SheetReturned (score page₀ : List ℕ) (said : ℤ) (page : List ℕ) : Type 0 where
  pub answer : said ≡ sheet_return (text_sheet score (length page₀))
  pub bytes : page ≡ page_after page₀ (text_sheet score (length page₀))
