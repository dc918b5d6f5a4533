-- `text::call::play_text` meets its contract. Assumes nothing.
use mathlib.Core.Path.{sym}
use native.Mathlib.Omega.{arith}
use lib.Seq.{length-take-le}
use Rattle.text_judge.proofs.Past.{judged_past}
use Rattle.text.proofs.Replying.{replied_as}
use Rattle.text.proofs.Shown.{listing_refused, listing_played}
use borrow.Author.Rules.{rules}
use Rattle.text.proofs.call.play_text.Goals as goal

pub overflow_mul-words : goal.overflow_mul-words
overflow_mul-words c =
    let past = judged_past _ _ (omega (arith, c.words_buffer-words.ensures)) c.judge_text.ensures c.in-Ok.is in
    record { fits = omega (arith, past.few) }

pub slice_bounds-words-end : goal.slice_bounds-words-end
slice_bounds-words-end c =
    let past = judged_past _ _ (omega (arith, c.words_buffer-words.ensures)) c.judge_text.ensures c.in-Ok.is in
    omega (arith, past.few, c.words_buffer-words.ensures, c.judge_text.auto.words)

pub slice_bounds-notes-end : goal.slice_bounds-notes-end
slice_bounds-notes-end c =
    let past = judged_past _ _ (omega (arith, c.words_buffer-words.ensures)) c.judge_text.ensures c.in-Ok.is in
    sym (length-take-le _ _ (omega (arith, past.few, c.words_buffer-words.ensures, c.judge_text.auto.words)))

pub play_score-requires : goal.play_score-requires
play_score-requires c =
    (judged_past _ _ (omega (arith, c.words_buffer-words.ensures)) c.judge_text.ensures c.in-Ok.is).frames

pub returns-in-Err : goal.returns-in-Err
returns-in-Err c =
    replied_as _ (listing_refused c.judge_text.ensures c.in-Err.is) c.reply_refusal.ensures

pub returns-in-Ok : goal.returns-in-Ok
returns-in-Ok c =
    let past = judged_past _ _ (omega (arith, c.words_buffer-words.ensures)) c.judge_text.ensures c.in-Ok.is in
    replied_as _ (listing_played past) c.play_score.ensures
