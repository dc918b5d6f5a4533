-- The list of a function's values: its length, what stands in it, and one value more at its end. Assumes nothing.
use Prim.Native.Nat.{ℕ, zero, suc, ◌+◌, ◌≤◌, ◌<◌}
use mathlib.Core.Path.{◌≡◌, refl, ap, ◌∙◌}
use mathlib.Core.List.{List, [], ◌∷◌, ◌++◌, map}
use native.Mathlib.Omega.{arith}
use lib.ListN.{length, get_or}
use Rattle.laws.specs.Listed.{listed_from, listed}

module _ {Y : Type 0} (f : ℕ → Y) where
  from_length : (m k : ℕ) → length (listed_from f m k) ≡ m
  unfolding listed_from
  from_length zero k = refl
  from_length (suc m) k = ap suc (from_length m (suc k))

  from_at : (m k i : ℕ) (d : Y) → i < m → get_or (listed_from f m k) i d ≡ f (k + i)
  unfolding listed_from
  from_at zero k i d h = absurd (omega arith)
  from_at (suc m) k zero d h = let z : k ≡ k + 0 = omega arith in ap f z
  from_at (suc m) k (suc i) d h = let z : suc k + i ≡ k + suc i = omega arith in from_at m (suc k) i d (omega arith) ∙ ap f z

  from_more : (m k : ℕ) → listed_from f (suc m) k ≡ listed_from f m k ++ (f (k + m) ∷ [])
  unfolding listed_from
  from_more zero k = let z : k ≡ k + 0 = omega arith in ap (λ (n : ℕ). f n ∷ []) z
  from_more (suc m) k =
      let z : suc k + m ≡ k + suc m = omega arith in
      ap (λ (l : List Y). f k ∷ l) (from_more m (suc k) ∙ ap (λ (n : ℕ). listed_from f m (suc k) ++ (f n ∷ [])) z)

  pub listed_length : (m : ℕ) → length (listed f m) ≡ m
  listed_length m = from_length m 0

  pub listed_at : (m i : ℕ) (d : Y) → i < m → get_or (listed f m) i d ≡ f i
  listed_at m i d h = let z : 0 + i ≡ i = omega arith in from_at m 0 i d h ∙ ap f z

  pub listed_more : (m : ℕ) → listed f (suc m) ≡ listed f m ++ (f m ∷ [])
  listed_more m = let z : 0 + m ≡ m = omega arith in from_more m 0 ∙ ap (λ (n : ℕ). listed f m ++ (f n ∷ [])) z

-- a list made of each value
pub from_map : {Y Z : Type 0} (g : Y → Z) (f : ℕ → Y) (m k : ℕ) → map g (listed_from f m k) ≡ listed_from (λ i. g (f i)) m k
unfolding listed_from
from_map g f zero k = refl
from_map g f (suc m) k = ap (λ l. g (f k) ∷ l) (from_map g f m (suc k))

-- values that agree
from_same : {Y : Type 0} (f g : ℕ → Y) (m k : ℕ) → ((i : ℕ) → k ≤ i → i < k + m → f i ≡ g i) → listed_from f m k ≡ listed_from g m k
unfolding listed_from
from_same f g zero k h = refl
from_same f g (suc m) k h = λ j. h k (omega arith) (omega arith) j ∷ from_same f g m (suc k) (λ i low high. h i (omega arith) (omega arith)) j

pub listed_same : {Y : Type 0} (f g : ℕ → Y) (m : ℕ) → ((i : ℕ) → i < m → f i ≡ g i) → listed f m ≡ listed g m
listed_same f g m h = from_same f g m 0 (λ i low high. h i (omega arith))
