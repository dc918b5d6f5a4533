-- Numbers as they are printed: "floats are 8 lowercase hexadecimal digits of the f32 bits, seeds 16, other numbers decimal without leading zeros".
use Rattle.std.specs.Prelude.{ℕ, zero, suc, ◌+◌, ◌/◌, ◌%◌, List, [], ◌∷◌, ◌++◌, cond, ltb}

-- the byte of a digit below 16: 0 to 9 (bytes 48 to 57), then a to f (97 to 102)
unfoldable pub digit_for : ℕ → ℕ
digit_for v = cond (ltb v 10) (v + 48) (v + 87)

-- the last k digits of v in a base
unfoldable pub last_digits : ℕ → ℕ → ℕ → List ℕ
last_digits base zero v = []
last_digits base (suc k) v = last_digits base k (v / base) ++ (digit_for (v % base) ∷ [])

-- the last k hexadecimal digits of v
abbrev pub hex_text : ℕ → ℕ → List ℕ
hex_text k v = last_digits 16 k v

-- at most so many decimal digits of v
unfoldable pub decimal_up_to : ℕ → ℕ → List ℕ
decimal_up_to zero v = []
decimal_up_to (suc most) v = cond (ltb v 10) (digit_for v ∷ []) (decimal_up_to most (v / 10) ++ (digit_for (v % 10) ∷ []))

-- v in decimal. A number has no more digits than its value, or one, so that the bound is never met: the laws `decimal_last` and `decimal_longer`.
unfoldable pub decimal_text : ℕ → List ℕ
decimal_text v = decimal_up_to (suc v) v
