-- `tono_text::cue_sheet` meets its contract. Assumes nothing.
use Prim.Native.Nat.{ℕ, ◌^◌, ◌≤◌, ◌<◌}
use mathlib.Core.Path.{◌∙◌}
use native.Mathlib.Omega.{arith}
use mir.Facts.{to_z-of_z}
use mir.Val.{SFits}
use mir.Syntax.{w64}
use lib.ListN.{length}
use Rattle.text_sheet.proofs.Most.{bytes_within}
use Rattle.tono_text.proofs.Sheets.{length_returned, refusal_returned}
use borrow.Author.Rules.{rules}
use Rattle.tono_text.proofs.cue_sheet.Goals as goal

-- a slice has fewer than 2^63 bytes
pub length_as_i64-requires : goal.length_as_i64-requires
length_as_i64-requires c =
    let within_slice : (n : ℕ) → n ≤ length c.args.page.now → n < 2 ^ 63 = λ n h. omega arith in
    let fits = bytes_within c.args.score.now c.sheet_text.ensures _ c.in-Ok.is in
    within_slice _ (omega (arith, fits, c.sheet_text.auto.page))

pub returns-in-Ok : goal.returns-in-Ok
returns-in-Ok c =
    let s : SFits w64 c.length_as_i64.result = search rules in
    length_returned c.args.score.now c.sheet_text.ensures _ c.in-Ok.is (to_z-of_z s ∙ c.length_as_i64.ensures)

pub returns-in-Err : goal.returns-in-Err
returns-in-Err c =
    let s : SFits w64 c.minus_number.result = search rules in
    refusal_returned c.args.score.now c.sheet_text.ensures _ c.in-Err.is (to_z-of_z s ∙ c.minus_number.ensures)
