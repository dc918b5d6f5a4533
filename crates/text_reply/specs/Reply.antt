-- "it gets the listing's length in bytes, or −23 with the buffer untouched. The listing stands from the buffer's first byte on, and the bytes after it stay."
use Rattle.std.specs.Prelude.{ℕ, ◌≡◌, List, ◌++◌, cond, length, drop, ℤ, pos, negsuc, ltb, None, Option, Some}

-- The contract of printing any text l to `reply₀`, which is left as `reply`: what the parts of a text call promise of the listing that they print.
pub record Fitted (l reply₀ : List ℕ) (said : Option ℕ) (reply : List ℕ) : Type 0 where
  pub answer : said ≡ cond (ltb (length reply₀) (length l)) None (Some (length l))
  pub bytes : reply ≡ cond (ltb (length reply₀) (length l)) reply₀ (l ++ drop (length l) reply₀)

-- the length that a reply says: a short one none
abbrev pub length_in : Option ℕ → ℕ
length_in (Some n) = n
length_in None = 0

-- What the C call returns for each answer: "the listing's length in bytes, or −23" (`negsuc 22`).
abbrev pub return_of : Option ℕ → ℤ
return_of (Some n) = pos n
return_of None = negsuc 22
