-- `text_sheet::call::sheet_text` meets its contract. Assumes nothing.
use mathlib.Core.Path.{sym}
use native.Mathlib.Omega.{arith}
use lib.Seq.{length-take-le}
use Rattle.text_sheet.proofs.Ways.{printed_as, printed_not, text_refused, call_accepted, words_few, slice_few, text_planned}
use Rattle.std.proofs.lemmas.Result.{err_from_is_err_and}
use Rattle.text_sheet.proofs.call.sheet_text.Goals as goal

pub overflow_mul-words : goal.overflow_mul-words
overflow_mul-words c =
    let few = words_few 0 c.plan_text.ensures (omega (arith, c.words_buffer-words.ensures)) c.in_ok-score.was in
    record { fits = omega arith }

pub slice_bounds-words-end : goal.slice_bounds-words-end
slice_bounds-words-end c =
    let whole = words_few 0 c.plan_text.ensures (omega (arith, c.words_buffer-words.ensures)) c.in_ok-score.was in
    let kept = c.plan_text.auto.words in
    omega (arith, c.words_buffer-words.ensures)

pub slice_bounds-print_score-end : goal.slice_bounds-print_score-end
slice_bounds-print_score-end c =
    let cut = words_few 0 c.plan_text.ensures (omega (arith, c.words_buffer-words.ensures)) c.in_ok-score.was in
    let kept = c.plan_text.auto.words in
    sym (length-take-le _ _ (omega (arith, c.words_buffer-words.ensures)))

pub print_score-requires : goal.print_score-requires
print_score-requires c =
    let told = c.plan_text.ensures in
    let is = c.in_ok-score.was in
    record {
      draw_value = call_accepted 0 told (omega (arith, c.words_buffer-words.ensures)) is;
      notes_len_bound = slice_few 0 told (omega (arith, c.words_buffer-words.ensures)) is;
    }

pub returns-in_err-score : goal.returns-in_err-score
returns-in_err-score c =
    let p = err_from_is_err_and c.from_residual.result c.from_residual.ensures.1 in
    rw (p.1, p.2) (printed_not _ (text_refused _ c.plan_text.ensures c.in_err-score.was))

pub returns : goal.returns
returns c =
    printed_as (text_planned _ c.plan_text.ensures (omega (arith, c.words_buffer-words.ensures)) c.in_ok-score.was) c.print_score.ensures
