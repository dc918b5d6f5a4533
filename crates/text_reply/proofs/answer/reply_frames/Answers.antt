-- `text_reply::answer::reply_frames` meets its contract. Assumes nothing.
use mathlib.Core.Path.{refl}
use Rattle.text_reply.proofs.Fitting.{fitted_short, fitted_room, fitted_whole}
use borrow.Author.Rules.{rules}
use Rattle.text_reply.proofs.answer.reply_frames.Goals as goal

pub returns-then-reply-listing_length : goal.returns-then-reply-listing_length
returns-then-reply-listing_length c = fitted_short (c.listing_length.ensures.is c.args.state c.args.frames.now refl) c.if-reply-listing_length.true

pub put_listing-requires : goal.put_listing-requires
put_listing-requires c =
    fitted_room (c.listing_length.ensures.is c.args.state c.args.frames.now refl) c.if-reply-listing_length.false

pub returns : goal.returns
returns c =
    fitted_whole (c.listing_length.ensures.is c.args.state c.args.frames.now refl) c.if-reply-listing_length.false c.put_listing.ensures
