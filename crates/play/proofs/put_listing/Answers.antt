-- `play::put_listing` meets its contract. Assumes nothing.
use Rattle.text.proofs.Most.{reply_whole, reply_not_short}
use Rattle.play.proofs.put_listing.Goals as goal

pub returns-in-Some : goal.returns-in-Some
returns-in-Some c = (let whole = reply_whole c.requires c.play_text.ensures c.in-Some.is in record { value = whole.0; reply_after = whole.1 })

pub returns-in-None : goal.returns-in-None
returns-in-None c =
    absurd (reply_not_short c.requires c.play_text.ensures c.in-None.is)
