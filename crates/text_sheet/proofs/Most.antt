-- Use where a page is to be long enough for every sheet: `sheet-most`. Assumes nothing.
use Prim.Native.Nat.{ℕ, zero, suc, ◌≤◌}
use mathlib.Core.Path.{◌≡◌, refl, sym, ◌∙◌}
use mathlib.Core.List.{List}
use mathlib.Core.Bool.{Bool, true, false, cond}
use native.Mathlib.Omega.{arith}
use borrow.Author.Tests.{le-ltb, ltb-false}
use lib.Dec.{ltb}
use lib.ListN.{length}
use Rattle.outcome.specs.Outcome.{Verdict}
use Rattle.std.specs.Prelude.{Ok, Err, Result}
use Rattle.score.specs.Score.{Score, note_count}
use Rattle.score.specs.Refusals.{refusal_at}
use Rattle.cue_pages.specs.Sheet.{sheet_of}
use Rattle.cue_pages.proofs.Long.{sheet_is_long, longest}
use Rattle.text_digits.specs.Read.{Read, got, broken}
use Rattle.text_read.specs.Text.{Text, seq_in, text_of}
use Rattle.text_judge.specs.Call.{call_of}
use Rattle.text_judge.specs.Refusal.{text_refusal, unless_refused}
use Rattle.text_judge.proofs.Refused.{unrefused_read}
use Rattle.text_judge.proofs.Unless.{unless_same}
use Rattle.text_sheet.specs.TextSheet.{SheetResult, refused, accepted, sheet_fitting, sheet_unless, score_sheet, sheet_read, text_sheet, answer_of, SheetPrinted}

-- the sheet of an accepted score of at most 256 notes
score_most : (s : Score) (d : ℕ) → note_count s ≤ 256 → refusal_at s d ≡ Ok tt → length (sheet_of s d) ≤ 18692
score_most s d few fine =
    let l = sheet_is_long s d fine (omega arith) in
    let m = longest (note_count s) few in
    omega arith

-- ---- a page of 18,692 bytes or more
-- the sheet of a text, or the number that refuses it before 34
abbrev whole_read : Read Text → SheetResult
whole_read broken = refused 15
whole_read (got t rest) = let s = call_of (seq_in t) t.notes t.numbers.n in sheet_unless (refusal_at s t.draw) (accepted (sheet_of s t.draw))

unfoldable pub whole_sheet : List ℕ → SheetResult
whole_sheet text = unless_refused refused (text_refusal text) (whole_read (text_of text))

fitting_by : (v : Verdict) (room : ℕ) (sheet : List ℕ) → (v ≡ Ok tt → length sheet ≤ room) → sheet_unless v (sheet_fitting room sheet) ≡ sheet_unless v (accepted sheet)
fitting_by (Ok _) room sheet f = rw (le-ltb room (length sheet) (f refl))
fitting_by (Err r) room sheet f = refl

-- THE LAW: no sheet is longer, so that 34 never refuses such a page
pub never_short : (text : List ℕ) (room : ℕ) → 18692 ≤ room → text_sheet text room ≡ whole_sheet text
unfolding text_sheet whole_sheet score_sheet
never_short text room long =
    unless_same refused (text_refusal text) (sheet_read room (text_of text)) (whole_read (text_of text)) (λ none.
    let u = unrefused_read text none in
    let t = u.said in
    let s = call_of (seq_in t) t.notes t.numbers.n in
    rw u.is (fitting_by (refusal_at s t.draw) room (sheet_of s t.draw) (λ fine. let m = score_most s t.draw u.notes fine in omega arith)))

-- ---- any page: what is printed fits
abbrev Within : ℕ → SheetResult → Type 0
Within room r = (sheet : List ℕ) → r ≡ accepted sheet → length sheet ≤ room

refused_within : (room n : ℕ) → Within room (refused n)
refused_within room n sheet e = let z : ◌≡◌ {A = ℕ} 0 1 = cc in absurd (omega arith)

fitting_within : (room : ℕ) (s : List ℕ) → Within room (sheet_fitting room s)
fitting_within room s = by (ltb room (length s)) refl
  where
    by : (b : Bool) → ltb room (length s) ≡ b → Within room (cond b (refused 34) (accepted s))
    by true q = refused_within room 34
    by false q = λ sheet e.
        let l = ltb-false room (length s) q in
        let z : length s ≡ length sheet = cc in
        omega arith

unless_within : (v : Verdict) (room : ℕ) (r : SheetResult) → Within room r → Within room (sheet_unless v r)
unless_within (Ok _) room r h = h
unless_within (Err why) room r h = refused_within room _

read_within : (room : ℕ) (x : Read Text) → Within room (sheet_read room x)
unfolding score_sheet
read_within room broken = refused_within room 15
read_within room (got t rest) =
    let s = call_of (seq_in t) t.notes t.numbers.n in
    unless_within (refusal_at s t.draw) room (sheet_fitting room (sheet_of s t.draw)) (fitting_within room (sheet_of s t.draw))

number_within : (k room : ℕ) (r : SheetResult) → Within room r → Within room (unless_refused refused k r)
number_within zero room r h = h
number_within (suc k) room r h = refused_within room (suc k)

text_within : (text : List ℕ) (room : ℕ) → Within room (text_sheet text room)
unfolding text_sheet
text_within text room = number_within (text_refusal text) room (sheet_read room (text_of text)) (read_within room (text_of text))

bytes_by : (room : ℕ) (r : SheetResult) (n : ℕ) → Within room r → Ok n ≡ answer_of r → n ≤ room
bytes_by room (refused k) n h e = let z : ◌≡◌ {A = ℕ} 0 1 = cc in absurd (omega arith)
bytes_by room (accepted sheet) n h e =
    let l = h sheet refl in
    let z : n ≡ length sheet = cc in
    omega arith

pub bytes_within : (text : List ℕ) {page₀ page : List ℕ} {said : Result ℕ ℕ} → SheetPrinted (text_sheet text (length page₀)) page₀ said page → (n : ℕ) → said ≡ Ok n → n ≤ length page₀
bytes_within text {page₀} h n e = bytes_by (length page₀) (text_sheet text (length page₀)) n (text_within text (length page₀)) (sym e ∙ h.answer)
