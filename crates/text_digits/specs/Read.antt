-- The numbers of a text score (01, "Text score"). A form is read off the head of the bytes; what follows it is left for the next form.
use Rattle.std.specs.Prelude.{ℕ, zero, suc, ◌+◌, ◌*◌, ◌-◌, List, [], ◌∷◌, cond, ltb, leb, eqb}

-- a value and the bytes after it, or bytes that are not of the form
pub data Read (A : Type 0) : Type 0 where
  got : A → List ℕ → Read A
  broken : Read A

-- one form after another
abbrev pub after : {A B : Type 0} → Read A → (A → List ℕ → Read B) → Read B
after (got v s) f = f v s
after broken f = broken

abbrev pub tab : ℕ
tab = 9

abbrev pub newline : ℕ
newline = 10

-- the byte b
unfoldable pub byte : ℕ → List ℕ → Read ℕ
byte b [] = broken
byte b (x ∷ s) = cond (eqb x b) (got b s) broken

-- the value of a digit, 0 to 9 (bytes 48 to 57) or lowercase a to f (97 to 102); 16 of any other byte
unfoldable pub digit_of : ℕ → ℕ
digit_of b = cond (ltb b 48) 16 (cond (ltb b 58) (b - 48) (cond (ltb b 97) 16 (cond (ltb b 103) (b - 87) 16)))

-- k lowercase hexadecimal digits, after digits of value v
unfoldable pub hex_from : ℕ → ℕ → List ℕ → Read ℕ
hex_from zero v s = got v s
hex_from (suc k) v [] = broken
hex_from (suc k) v (b ∷ s) = cond (ltb (digit_of b) 16) (hex_from k (v * 16 + digit_of b) s) broken

abbrev pub hex : ℕ → List ℕ → Read ℕ
hex k = hex_from k 0

-- as many decimal digits as there are, after digits of value v
unfoldable pub digits_from : ℕ → List ℕ → Read ℕ
digits_from v [] = got v []
digits_from v (b ∷ s) = cond (ltb (digit_of b) 10) (digits_from (v * 10 + digit_of b) s) (got v (b ∷ s))

-- a number that doesn't fit breaks the form
unfoldable pub fitting : ℕ → Read ℕ → Read ℕ
fitting most (got v s) = cond (leb v most) (got v s) broken
fitting most broken = broken

-- "decimal without leading zeros", at most `most`: 0 (byte 48) alone, or digits of which the first is not 0
unfoldable pub decimal : ℕ → List ℕ → Read ℕ
decimal most [] = broken
decimal most (b ∷ s) = cond (eqb b 48) (got 0 s) (cond (ltb (digit_of b) 10) (fitting most (digits_from (digit_of b) s)) broken)
