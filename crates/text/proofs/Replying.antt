-- Use for what a text call replies: a text that is printed to it is the listing, and the length that it says is no longer than the reply. Assumes nothing.
use Prim.Native.Nat.{ℕ, ◌≤◌}
use mathlib.Core.Path.{◌≡◌}
use mathlib.Core.List.{List}
use lib.ListN.{length}
use Rattle.text_reply.specs.Reply.{Fitted, length_in}
use Rattle.std.specs.Prelude.{Option}
use Rattle.text_reply.proofs.Fitting.{fitted_as, length_within}
use Rattle.text.specs.Listing.{listing}
use Rattle.text.specs.Reply.{reply_of, bytes_after, Replied}

pub replied_as : {l : List ℕ} {reply₀ reply : List ℕ} {said : Option ℕ} (text : List ℕ) → l ≡ listing text → Fitted l reply₀ said reply → Replied text reply₀ said reply
unfolding reply_of bytes_after
replied_as text e h = let f = fitted_as e h in record { answer = f.answer; bytes = f.bytes }

listing_fitted : {text reply₀ reply : List ℕ} {said : Option ℕ} → Replied text reply₀ said reply → Fitted (listing text) reply₀ said reply
unfolding reply_of bytes_after
listing_fitted h = record { answer = h.answer; bytes = h.bytes }

pub reply_within : {text reply₀ reply : List ℕ} {said : Option ℕ} → Replied text reply₀ said reply → length_in said ≤ length reply₀
reply_within h = length_within (listing_fitted h)
