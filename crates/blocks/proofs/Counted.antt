-- Use for a pass over a table that at place i writes y, and adds to a count that is 0 where `P i y` holds: a pass without a branch that covers only some values.
-- `Counted` is the loop's invariant. Where the count is 0 at the end, P holds at every place. Proved for any values and any P. Assumes nothing.
use Prim.Native.Nat.{ℕ, ◌+◌, ◌-◌, ◌*◌, ◌≤◌, ◌<◌}
use mathlib.Core.Path.{◌≡◌, sym, ap, ◌∙◌, subst}
use mathlib.Core.Logic.{◌⊎◌, inl, inr}
use mathlib.Core.List.{List}
use native.Mathlib.Nat.{eq-or-lt_of_le}
use native.Mathlib.Omega.{arith}
use lib.ListN.{length, get_or, set, length-set}
use lib.Seq.{get_or-set_same, get_or-set_other}
use Rattle.blocks.proofs.Block.{Tabled}

-- i of n places of a table of m are done; each adds at most 2
pub record Counted {Y : Type 0} (P : ℕ → Y → Type 0) (d : Y) (m n i bad : ℕ) (l : List Y) : Type 0 where
  pub within : i ≤ n
  pub room : n ≤ m
  pub few : bad ≤ i * 2
  pub kept : length l ≡ m
  pub right : bad ≡ 0 → (k : ℕ) → k < i → P k (get_or l k d)

module _ {Y : Type 0} {P : ℕ → Y → Type 0} {d : Y} {m n : ℕ} where
  pub counted_none : {l : List Y} → n ≤ m → length l ≡ m → Counted P d m n 0 0 l
  counted_none h e = record { within = omega arith; room = h; few = omega arith; kept = e; right = λ z k l. absurd (none k l) }
    where
      none : (k : ℕ) → k < 0 → ⊥
      none k l = omega arith

  pub counted_more : {i bad : ℕ} {l : List Y} {y : Y} {b : ℕ} → Counted P d m n i bad l → i < n → b ≤ 2 → (b ≡ 0 → P i y) → Counted P d m n (i + 1) (bad + b) (set l i y)
  counted_more {i} {bad} {l} {y} {b} h lt le p = record {
    within = omega arith;
    room = h.room;
    few = more h.few;
    kept = rw length-set h.kept;
    right = λ z k g. pick z k (eq-or-lt_of_le (less k g));
  }
    where
      more : bad ≤ i * 2 → bad + b ≤ (i + 1) * 2
      more h = omega arith

      left : bad + b ≡ 0 → bad ≡ 0
      left z = omega arith

      added : bad + b ≡ 0 → b ≡ 0
      added z = omega arith

      under : (j : ℕ) → j ≡ m → n ≤ m → i < j
      under j e h = omega arith

      less : (k : ℕ) → k < i + 1 → k ≤ i
      less k g = omega arith

      apart : (k : ℕ) → k < i → (k ≡ i) → ⊥
      apart k g z = omega arith

      pick : bad + b ≡ 0 → (k : ℕ) → (k ≡ i) ⊎ (k < i) → P k (get_or (set l i y) k d)
      pick z k (inl e) =
          subst (λ (j : ℕ). P j (get_or (set l i y) j d)) (sym e)
          (subst (P i) (sym (get_or-set_same l i y d (under (length l) h.kept h.room))) (p (added z)))
      pick z k (inr g) = subst (P k) (sym (get_or-set_other l i k y d (apart k g))) (h.right (left z) k g)

  pub counted_all : {i bad : ℕ} {l : List Y} → Counted P d m n i bad l → n ≤ i → bad ≡ 0 → (k : ℕ) → k < n → P k (get_or l k d)
  counted_all {i} h le z k g = h.right z k (reach k g)
    where
      reach : (k : ℕ) → k < n → k < i
      reach k g = omega arith

  pub counted_most : {i bad : ℕ} {l : List Y} → Counted P d m n i bad l → bad ≤ m * 2
  counted_most {i} {bad} h = go h.few h.within h.room
    where
      go : bad ≤ i * 2 → i ≤ n → n ≤ m → bad ≤ m * 2
      go a b c = omega arith

-- where P says which value stands there, the table is filled
pub counted_table : {Y : Type 0} {of : ℕ → Y} {d : Y} {m n i bad : ℕ} {l : List Y} → Counted (λ k y. y ≡ of k) d m n i bad l → n ≤ i → bad ≡ 0 → Tabled of d 0 n l
counted_table {of = of} {d = d} {l = l} h le z = record { at = λ k g s. ap (λ (j : ℕ). get_or l j d) (same k) ∙ counted_all h le z k s }
  where
    same : (k : ℕ) → k - 0 ≡ k
    same k = omega arith
