-- Values copied one by one, and a kernel's answers to what was copied. Assumes nothing.
use Prim.Native.Nat.{ℕ, zero, suc, ◌+◌, ◌≤◌, ◌<◌}
use mathlib.Core.Path.{◌≡◌, refl, sym, ap, ◌∙◌}
use mathlib.Core.List.{List, [], ◌∷◌, ◌++◌, append_assoc, map}
use native.Mathlib.Omega.{arith}
use native.Mathlib.Numerals.{add-one}
use lib.ListN.{length, get_or, set, take, drop, length-set, length-map, get_or-append}
use lib.Seq.{drop-cons, take-suc, set_at, length-take-le, get_or-take, ext_get_or}
use Rattle.blocks.proofs.Block.{Tabled, tabled_at}
use Rattle.harness.specs.Block.{through}

-- the first i of n values are copied
pub record Copying {X : Type 0} (from l₀ : List X) (n i : ℕ) (l : List X) : Type 0 where
  pub most : i ≤ n
  pub kept : length l ≡ length l₀
  pub at : l ≡ take i from ++ drop i l₀

module _ {X : Type 0} {from l₀ : List X} {n : ℕ} where
  pub copying_none : Copying from l₀ n 0 l₀
  copying_none = record { most = omega arith; kept = refl; at = refl }

  pub copying_more : {i : ℕ} {l : List X} (d : X) → Copying from l₀ n i l → i < n → n ≤ length from → n ≤ length l₀ → Copying from l₀ n (i + 1) (set l i (get_or from i d))
  copying_more {i} {l} d h lt read write = record { most = omega arith; kept = rw length-set h.kept; at = rw (add-one, take-suc from i d inside, append_assoc) written }
    where
      inside : i < length from
      inside = omega arith

      front : length (take i from) ≡ i
      front = length-take-le i from (omega arith)

      written : set l i (get_or from i d) ≡ take i from ++ get_or from i d ∷ drop (suc i) l₀
      written =
          ap (λ (s : List X). set s i (get_or from i d)) (h.at ∙ ap (λ (s : List X). take i from ++ s) (drop-cons l₀ i d (omega arith)))
          ∙ set_at (take i from) (get_or l₀ i d) (drop (suc i) l₀) (get_or from i d) i front

  pub copying_all : {i : ℕ} {l : List X} → Copying from l₀ n i l → n ≤ i → l ≡ take n from ++ drop n l₀
  copying_all {i} h le = let e : i ≡ n = omega (arith, h.most) in h.at ∙ ap (λ (k : ℕ). take k from ++ drop k l₀) e

map_at : {X Y : Type 0} (f : X → Y) (l : List X) (k : ℕ) (d : X) (e : Y) → k < length l → get_or (map f l) k e ≡ f (get_or l k d)
map_at f [] k d e h = absurd (omega arith)
map_at f (x ∷ xs) zero d e h = refl
map_at f (x ∷ xs) (suc k) d e h = map_at f xs k d e (omega arith)

-- Copied from x to z, through f to s, and copied from s to out.
module _ {X : Type 0} (f : X → X) (d : X) (n : ℕ) (x z z₀ s out out₀ : List X) (copied : z ≡ take n x ++ drop n z₀) (read : n ≤ length x) (write : n ≤ length s)
    (table : Tabled (λ k. f (get_or z k d)) d 0 n s) where
  here : length (take n x) ≡ n
  here = length-take-le n x read

  there : length (take n s) ≡ n
  there = length-take-le n s write

  value : (k : ℕ) → k < length (take n s) → get_or (take n s) k d ≡ get_or (map f (take n x)) k d
  value k h =
      let below : k < n = omega (arith, there) in
      let inside : k < length (take n x) = omega (arith, here) in
      get_or-take n s k d below ∙ tabled_at table k below
      ∙ ap f (ap (λ (l : List X). get_or l k d) copied ∙ get_or-append (take n x) (drop n z₀) d k inside)
      ∙ sym (map_at f (take n x) k d d inside)

  pub gone_through : out ≡ take n s ++ drop n out₀ → out ≡ through f n x out₀
  gone_through e = e ∙ ap (λ (l : List X). l ++ drop n out₀) (ext_get_or d (take n s) (map f (take n x)) (there ∙ sym (length-map (take n x) f ∙ here)) value)
