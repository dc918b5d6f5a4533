-- A stretch of a list whose elements are each changed by a rule that sees the element's index.
use Rattle.std.specs.Prelude.{◌≡◌, ℕ, ◌<◌, ◌≤◌, List, length, slice_index_or}

-- the elements from a on and below b; the others stay. `d` is what `get_or` gives past the end.
pub record Stretched {Y : Type 0} (rule : ℕ → Y → Y) (d : Y) (a b : ℕ) (l₀ l : List Y) : Type 0 where
  pub kept : length l ≡ length l₀
  pub before : (k : ℕ) → k < a → slice_index_or l k d ≡ slice_index_or l₀ k d
  pub within : (k : ℕ) → a ≤ k → k < b → slice_index_or l k d ≡ rule k (slice_index_or l₀ k d)
  pub past : (k : ℕ) → b ≤ k → slice_index_or l k d ≡ slice_index_or l₀ k d
