-- Lists of sized values. Assumes nothing.
use Prim.Native.Nat.{ℕ, zero, suc, ◌+◌, ◌<◌, ◌≤◌}
use mathlib.Core.Path.{◌≡◌, refl}
use mathlib.Core.List.{List, [], ◌∷◌}
use mathlib.Core.Bool.{Bool, true, false, cond, false≢true}
use native.Mathlib.Omega.{arith}
use lib.ListN.{length, get_or}
use lib.Ieee.{Float, nan}
use Rattle.laws.specs.Listed.{listed_from, listed}
use Rattle.dsl.specs.Sized.{sized_of, all_sized}

both_true : (b r : Bool) → cond b r false ≡ true → (b ≡ true) × (r ≡ true)
both_true true r e = (refl, e)
both_true false r e = absurd (false≢true e)

all_from : (f : ℕ → Float) (m k : ℕ) → ((i : ℕ) → k ≤ i → i < k + m → sized_of (f i) ≡ true) → all_sized (listed_from f m k) ≡ true
unfolding listed_from all_sized
all_from f zero k h = refl
all_from f (suc m) k h = rw (h k (omega arith) (omega arith)) (all_from f m (suc k) (λ i low high. h i (omega arith) (omega arith)))

pub all_listed : (f : ℕ → Float) (m : ℕ) → ((i : ℕ) → i < m → sized_of (f i) ≡ true) → all_sized (listed f m) ≡ true
all_listed f m h = all_from f m 0 (λ i low high. h i (omega arith))

pub all_at : (l : List Float) (i : ℕ) → all_sized l ≡ true → i < length l → sized_of (get_or l i nan) ≡ true
unfolding all_sized
all_at [] i e h = absurd (omega arith)
all_at (x ∷ xs) zero e h = (both_true (sized_of x) (all_sized xs) e).0
all_at (x ∷ xs) (suc i) e h = all_at xs i (both_true (sized_of x) (all_sized xs) e).1 (omega arith)
