-- `text_reply::answer::reply_answer` meets its contract. Assumes nothing.
use Rattle.text_reply.proofs.answer.reply_answer.Goals as goal

pub returns-in-Ok : goal.returns-in-Ok
returns-in-Ok c = rw c.in-Ok.is (rw c.state.ensures at c.reply_frames.ensures)

pub returns-in-Err : goal.returns-in-Err
returns-in-Err c = rw c.in-Err.is (rw c.number.ensures at c.reply_refusal.ensures)
