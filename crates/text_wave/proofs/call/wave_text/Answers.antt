-- `text_wave::call::wave_text` meets its contract. Assumes nothing.
use mathlib.Core.Path.{sym}
use native.Mathlib.Omega.{arith}
use lib.Seq.{length-take-le}
use Rattle.text_judge.proofs.Past.{judged_past}
use Rattle.text_wave.proofs.Filing.{filed_none, filed_as, file_refused, file_played}
use Rattle.std.proofs.lemmas.Result.{err_from_is_err_and}
use Rattle.text_wave.proofs.call.wave_text.Goals as goal

pub overflow_mul-words : goal.overflow_mul-words
overflow_mul-words c =
    let past = judged_past _ _ (omega (arith, c.words_buffer-words.ensures)) c.judge_text.ensures c.in_ok-score.was in
    record { fits = omega (arith, past.few) }

pub slice_bounds-words-end : goal.slice_bounds-words-end
slice_bounds-words-end c =
    let past = judged_past _ _ (omega (arith, c.words_buffer-words.ensures)) c.judge_text.ensures c.in_ok-score.was in
    omega (arith, past.few, c.words_buffer-words.ensures, c.judge_text.auto.words)

pub slice_bounds-notes-end : goal.slice_bounds-notes-end
slice_bounds-notes-end c =
    let past = judged_past _ _ (omega (arith, c.words_buffer-words.ensures)) c.judge_text.ensures c.in_ok-score.was in
    sym (length-take-le _ _ (omega (arith, past.few, c.words_buffer-words.ensures, c.judge_text.auto.words)))

pub play_file-requires : goal.play_file-requires
play_file-requires c =
    (judged_past _ _ (omega (arith, c.words_buffer-words.ensures)) c.judge_text.ensures c.in_ok-score.was).frames

pub returns-in_err-score : goal.returns-in_err-score
returns-in_err-score c =
    let p = err_from_is_err_and c.from_residual.result c.from_residual.ensures.1 in
    rw (p.1, p.2) (filed_none _ (file_refused _ c.judge_text.ensures c.in_err-score.was))

pub returns : goal.returns
returns c =
    let past = judged_past _ _ (omega (arith, c.words_buffer-words.ensures)) c.judge_text.ensures c.in_ok-score.was in
    filed_as (file_played _ past) c.play_file.ensures
