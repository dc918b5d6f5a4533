-- A list of floats that are a list of patterns, at a place. Assumes nothing.
use Prim.Native.Nat.{ℕ, zero, suc, ◌<◌}
use mathlib.Core.Path.{◌≡◌, refl}
use mathlib.Core.List.{List, [], ◌∷◌, map}
use native.Mathlib.Nat.{le_of_suc-le-suc, not-suc-le-zero}
use lib.ListN.{get_or, length}

pub looked_up : {A B : Type 0} (f : A → B) (l : List A) (i : ℕ) (a : A) (b : B) → i < length l → get_or (map f l) i b ≡ f (get_or l i a)
looked_up f [] i a b h = absurd (not-suc-le-zero h)
looked_up f (x ∷ xs) zero a b h = refl
looked_up f (x ∷ xs) (suc i) a b h = looked_up f xs i a b (le_of_suc-le-suc h)
