-- List places "by start frame, ties by list place"; `start` gives the start frame of the note at a place.
use Rattle.std.specs.Prelude.{ℕ, ◌<◌, ◌≤◌, ◌≡◌, ◌⊎◌, List, [], ◌∷◌, Bool, true, false, cond, ltb, leb, eqb}

module _ (start : ℕ → ℕ) where
  -- whether a is listed before b: it starts earlier, or at the same frame and stands no later in the list
  abbrev pub is_before : ℕ → ℕ → Bool
  is_before a b = cond (ltb (start a) (start b)) true (cond (eqb (start a) (start b)) (leb a b) false)

  -- the place k, put in front of the first that it is listed before
  unfoldable pub insert : ℕ → List ℕ → List ℕ
  insert k [] = k ∷ []
  insert k (x ∷ xs) = cond (is_before k x) (k ∷ x ∷ xs) (x ∷ insert k xs)

  unfoldable pub sorted : List ℕ → List ℕ
  sorted [] = []
  sorted (k ∷ ks) = insert k (sorted ks)

  -- ---- what the law of order says of a sorted list: each place is listed before all that follow it
  abbrev pub Before : ℕ → ℕ → Type 0
  Before a b = (start a < start b) ⊎ ((start a ≡ start b) × (a ≤ b))

  abbrev pub BeforeAll : ℕ → List ℕ → Type 0
  BeforeAll a [] = Unit
  BeforeAll a (x ∷ xs) = Before a x × BeforeAll a xs

  abbrev pub InOrder : List ℕ → Type 0
  InOrder [] = Unit
  InOrder (x ∷ xs) = BeforeAll x xs × InOrder xs
