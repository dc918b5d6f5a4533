-- `text_reply::answer::reply_refusal` meets its contract. Assumes nothing.
use Rattle.text_reply.proofs.Fitting.{fitted_short, fitted_room, fitted_whole}
use borrow.Author.Rules.{rules}
use Rattle.text_reply.proofs.answer.reply_refusal.Goals as goal

pub returns-then-reply-refusal_length : goal.returns-then-reply-refusal_length
returns-then-reply-refusal_length c = fitted_short c.refusal_length.ensures c.if-reply-refusal_length.true

pub put_refusal-requires : goal.put_refusal-requires
put_refusal-requires c = fitted_room c.refusal_length.ensures c.if-reply-refusal_length.false

pub returns : goal.returns
returns c = fitted_whole c.refusal_length.ensures c.if-reply-refusal_length.false c.put_refusal.ensures
