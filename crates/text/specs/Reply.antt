-- "it gets the listing's length in bytes, or −23 with the buffer untouched. The listing stands from the buffer's first byte on, and the bytes after it stay."
use Rattle.std.specs.Prelude.{ℕ, ◌≡◌, List, ◌++◌, Bool, cond, length, drop, ltb, None, Option, Some}
use Rattle.text.specs.Listing.{listing}

-- "23 C call only: reply buffer shorter than the listing"
abbrev pub too_short : List ℕ → List ℕ → Bool
too_short text reply₀ = ltb (length reply₀) (length (listing text))

-- what a text call answers that is lent `reply₀`
unfoldable pub reply_of : List ℕ → List ℕ → Option ℕ
reply_of text reply₀ = cond (too_short text reply₀) None (Some (length (listing text)))

-- and what it leaves in it
unfoldable pub bytes_after : List ℕ → List ℕ → List ℕ
bytes_after text reply₀ = cond (too_short text reply₀) reply₀ (listing text ++ drop (length (listing text)) reply₀)

-- The contract of a text call that is lent `reply₀` and leaves `reply`.
pub record Replied (text reply₀ : List ℕ) (said : Option ℕ) (reply : List ℕ) : Type 0 where
  pub answer : said ≡ reply_of text reply₀
  pub bytes : reply ≡ bytes_after text reply₀
