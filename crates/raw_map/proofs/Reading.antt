-- The loop that reads points, and the sign of a number. Assumes nothing.
use Prim.Native.Nat.{ℕ, zero, suc, ◌+◌, ◌-◌, ◌*◌, ◌≤◌, ◌<◌}
use mathlib.Core.Path.{◌≡◌, refl, sym, ap, ◌∙◌}
use mathlib.Core.Bool.{Bool, true, false}
use mathlib.Core.List.{List, [], ◌∷◌, ◌++◌, append_assoc}
use native.Mathlib.Omega.{arith}
use native.Mathlib.Numerals.{add-one}
use lib.ListN.{length, get_or, set, drop}
use lib.Seq.{drop-cons, set_at}
use lib.IntN.{negsuc}
use mir.Syntax.{w64}
use mir.Val.{SFits, to_z, of_z}
use mir.Facts.{to_z-of_z, to_z_pos}
use borrow.Author.Tests.{lt-ltb, le-ltb, ltb-true, ltb-false}
use lib.Dec.{ltb}
use Rattle.raw_map.specs.Words.{signed_of}
use Rattle.laws.specs.Listed.{listed_from, listed}
use Rattle.laws.proofs.Listed.{listed_length, listed_more}

-- what holds at turn i: the first i are read, the others are as they were
module _ {Y : Type 0} (f : ℕ → Y) (l₀ : List Y) where
  abbrev pub read : ℕ → List Y
  read i = listed f i ++ drop i l₀

  pub read_none : l₀ ≡ read 0
  unfolding listed_from
  read_none = refl

  pub read_more : (i : ℕ) {l : List Y} {y : Y} → i < length l₀ → l ≡ read i → y ≡ f i → set l i y ≡ read (i + 1)
  read_more i {l} {y} lt e is =
      let R = drop (suc i) l₀ in
      let written : set l i y ≡ listed f i ++ y ∷ R =
      ap (λ (k : List Y). set k i y) (e ∙ ap (λ (k : List Y). listed f i ++ k) (drop-cons l₀ i y lt)) ∙ set_at (listed f i) (get_or l₀ i y) R y i (listed_length f i) in
      rw add-one (written ∙ ap (λ (v : Y). listed f i ++ v ∷ R) is ∙ sym (append_assoc (listed f i) (f i ∷ []) R) ∙ ap (λ (k : List Y). k ++ R) (sym (listed_more f i)))

-- ---- two's complement
module _ (low high : ℕ) where
  abbrev pub pattern : ℕ
  pattern = high * 4294967296 + low

  sign_none : high < 2147483648 → low < 4294967296 → to_z w64 pattern ≡ signed_of low high
  unfolding signed_of
  sign_none h l = rw (lt-ltb high 2147483648 h) (to_z_pos w64 {n = pattern} (omega arith))

  -- what is left above the pattern
  abbrev pub above : ℕ
  above = 18446744073709551615 - pattern

  sign_some : 2147483648 ≤ high → high < 4294967296 → low < 4294967296 → to_z w64 pattern ≡ signed_of low high
  unfolding signed_of
  sign_some h hl l =
      let small : above < 9223372036854775808 = omega arith in
      let fits : SFits w64 (negsuc above) = record { sfits = small } in
      let is : pattern ≡ of_z w64 (negsuc above) = omega arith in
      rw (le-ltb high 2147483648 h) (ap (to_z w64) is ∙ to_z-of_z fits)

  by_sign : high < 4294967296 → low < 4294967296 → (b : Bool) → ltb high 2147483648 ≡ b → to_z w64 pattern ≡ signed_of low high
  by_sign hl l true e = sign_none (ltb-true high 2147483648 e) l
  by_sign hl l false e = sign_some (ltb-false high 2147483648 e) hl l

  pub sign_is : high < 4294967296 → low < 4294967296 → to_z w64 pattern ≡ signed_of low high
  sign_is hl l = by_sign hl l (ltb high 2147483648) refl
