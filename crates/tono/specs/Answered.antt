-- What the C call returns and leaves: "it gets the listing's length in bytes, or −23 with the buffer untouched. The listing stands from the buffer's first byte on, and the bytes
-- after it stay."
use Rattle.std.specs.Prelude.{ℕ, ◌≡◌, List, ℤ}
use Rattle.text_reply.specs.Reply.{return_of}
use Rattle.text.specs.Reply.{reply_of, bytes_after}

pub record Answered (score reply₀ : List ℕ) (said : ℤ) (reply : List ℕ) : Type 0 where
  pub answer : said ≡ return_of (reply_of score reply₀)
  pub bytes : reply ≡ bytes_after score reply₀
