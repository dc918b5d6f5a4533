-- Use for a loop that at turn j adds element j to its state and puts a rule of the element in its place: the partials of a frame. `Swept` is the loop's
-- invariant. Assumes nothing.
use Prim.Native.Nat.{ℕ, zero, suc, ◌+◌, ◌<◌}
use mathlib.Core.Path.{◌≡◌, refl, ap, ◌∙◌}
use mathlib.Core.List.{List, [], ◌∷◌, map, foldl}
use lib.ListN.{length, get_or, set, take}
use Rattle.laws.specs.Update.{updated_from}
use Rattle.laws.proofs.Update.{Updated, updated_none, updated_more, updated_read}
use Rattle.laws.proofs.Fold.{Folded, folded_none, folded_more, folded_all}

module _ {Y : Type 0} (move : Y → Y) where
  -- a rule that does not look at the index is a map of the part
  updated_map : (i n : ℕ) (l : List Y) → take n (updated_from (λ (j : ℕ). move) i n l) ≡ map move (take n l)
  unfolding updated_from
  updated_map i zero l = refl
  updated_map i (suc n) [] = refl
  updated_map i (suc n) (y ∷ ys) = ap (λ (l : List Y). move y ∷ l) (updated_map (suc i) n ys)

pub record Swept {S Y : Type 0} (add : S → Y → S) (move : Y → Y) (s₀ : S) (l₀ : List Y) (j : ℕ) (l : List Y) (s : S) : Type 0 where
  pub items : Updated (λ (i : ℕ). move) l₀ j l
  pub sum : Folded add s₀ l₀ j s

module _ {S Y : Type 0} {add : S → Y → S} {move : Y → Y} {s₀ : S} {l₀ : List Y} where
  pub swept_none : Swept add move s₀ l₀ 0 l₀ s₀
  swept_none = record { items = updated_none; sum = folded_none }

  module _ {j : ℕ} {l : List Y} {s : S} (h : Swept add move s₀ l₀ j l s) where
    pub swept_more : {t : S} {y : Y} → j < length l₀ → (d : Y) → t ≡ add s (get_or l j d) → y ≡ move (get_or l j d) → Swept add move s₀ l₀ (j + 1) (set l j y) t
    swept_more lt d et ey =
        let seen : get_or l j d ≡ get_or l₀ j d =
        ap (λ (k : List Y). get_or k j d) h.items.frames ∙ updated_read (λ (i : ℕ). move) 0 j l₀ d in
        record { items = updated_more h.items d ey; sum = folded_more h.sum lt d (et ∙ ap (add s) seen) }

    -- at the end, n elements being swept
    pub swept_items : (n : ℕ) → j ≡ n → take n l ≡ map move (take n l₀)
    swept_items n e = rw (h.items.frames, ← e) (updated_map move 0 j l₀)

    pub swept_sum : (n : ℕ) → j ≡ n → s ≡ foldl add s₀ (take n l₀)
    swept_sum n e = folded_all h.sum n e
