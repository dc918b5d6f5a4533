-- Use for a loop that at turn j adds element j of a list to its state: a sum. `Folded` is the loop's invariant. Assumes nothing.
use Prim.Native.Nat.{ℕ, ◌+◌, ◌<◌}
use mathlib.Core.Path.{◌≡◌, refl, ap, ◌∙◌}
use mathlib.Core.List.{List, foldl, foldl-append}
use native.Mathlib.Numerals.{add-one}
use lib.ListN.{length, get_or, take}
use lib.Seq.{take-suc}

-- What holds at turn j. (A record, so that a law's implicit arguments are read off it.)
pub record Folded {S Y : Type 0} (add : S → Y → S) (s₀ : S) (l : List Y) (j : ℕ) (s : S) : Type 0 where
  pub is : s ≡ foldl add s₀ (take j l)

module _ {S Y : Type 0} {add : S → Y → S} {s₀ : S} {l : List Y} where
  pub folded_none : Folded add s₀ l 0 s₀
  folded_none = record { is = refl }

  pub folded_more : {j : ℕ} {s t : S} → Folded add s₀ l j s → j < length l → (d : Y) → t ≡ add s (get_or l j d) → Folded add s₀ l (j + 1) t
  folded_more {j} h lt d e =
      record { is = rw (add-one, take-suc l j d, foldl-append) (e ∙ ap (λ (s : S). add s (get_or l j d)) h.is) }

  pub folded_all : {j : ℕ} {s : S} → Folded add s₀ l j s → (n : ℕ) → j ≡ n → s ≡ foldl add s₀ (take n l)
  folded_all h n e = h.is ∙ ap (λ (n : ℕ). foldl add s₀ (take n l)) e
