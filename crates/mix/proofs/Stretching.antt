-- Use for a loop that at turn i puts `rule i` of element i in its place, from a place on: `Stretched` with its end at i is the loop's invariant. Stretches that follow
-- each other are one (`stretched_both`), and one from the first element on is `updated` (`stretched_whole`). Assumes nothing.
use Rattle.std.proofs.Common.{◌≡◌, ℕ, ◌+◌, ◌<◌, ◌≤◌, Bool, true, false, ltb, ◌⊎◌, List, length, get_or, set, sym, refl, ap, ◌∙◌, inl, inr, eq-or-lt_of_le, arith, length-set}
use Rattle.std.proofs.Common.{get_or-set_other, get_or-set_same, ext_get_or, ltb-false, ltb-true}
use Rattle.laws.specs.Update.{updated}
use Rattle.laws.proofs.Update.{updated_length}
use Rattle.mix.specs.Stretch.{Stretched}
use Rattle.mix.proofs.Mixing.{updated_within, updated_past}

side : (k b : ℕ) → (k < b) ⊎ (b ≤ k)
side k b = by (ltb k b) refl
  where
    by : (t : Bool) → ltb k b ≡ t → (k < b) ⊎ (b ≤ k)
    by true e = inl (ltb-true k b e)
    by false e = inr (ltb-false k b e)

module _ {Y : Type 0} {rule : ℕ → Y → Y} {d : Y} {a : ℕ} {l₀ : List Y} where
  pub stretched_none : Stretched rule d a a l₀ l₀
  stretched_none = record { kept = refl; before = λ k h. refl; within = λ k h g. absurd (none k h g); past = λ k h. refl }
    where
      none : (k : ℕ) → a ≤ k → k < a → ⊥
      none k h g = omega arith

  pub stretched_more : {i : ℕ} {l : List Y} {y : Y} → Stretched rule d a i l₀ l → a ≤ i → i < length l₀ → y ≡ rule i (get_or l i d) → Stretched rule d a (i + 1) l₀ (set l i y)
  stretched_more {i} {l} {y} h le lt e = record {
    kept = rw length-set h.kept;
    before = λ k g. get_or-set_other l i k y d (apart k g) ∙ h.before k g;
    within = λ k g m. pick k g (eq-or-lt_of_le (less k m));
    past = λ k g. get_or-set_other l i k y d (further k g) ∙ h.past k (omega arith);
  }
    where
      apart : (k : ℕ) → k < a → (k ≡ i) → ⊥
      apart k g z = omega arith

      less : (k : ℕ) → k < i + 1 → k ≤ i
      less k m = omega arith

      further : (k : ℕ) → i + 1 ≤ k → (k ≡ i) → ⊥
      further k g z = omega arith

      sooner : (k : ℕ) → k < i → (k ≡ i) → ⊥
      sooner k g z = omega arith

      in_list : i < length l
      in_list = omega (arith, h.kept)

      here : get_or (set l i y) i d ≡ rule i (get_or l₀ i d)
      here = get_or-set_same l i y d in_list ∙ e ∙ ap (rule i) (h.past i (omega arith))

      pick : (k : ℕ) → a ≤ k → (k ≡ i) ⊎ (k < i) → get_or (set l i y) k d ≡ rule k (get_or l₀ k d)
      pick k g (inl z) = rw z here
      pick k g (inr m) = get_or-set_other l i k y d (sooner k m) ∙ h.within k g m

  pub stretched_all : {i b : ℕ} {l : List Y} → Stretched rule d a i l₀ l → i ≡ b → Stretched rule d a b l₀ l
  stretched_all h e = rw e at h

-- by another rule that is the same within the stretch
pub stretched_as : {Y : Type 0} {rule : ℕ → Y → Y} {d : Y} {a b : ℕ} {l₀ l : List Y} (other : ℕ → Y → Y) → ((k : ℕ) → a ≤ k → k < b → (y : Y) → rule k y ≡ other k y)
    → Stretched rule d a b l₀ l → Stretched other d a b l₀ l
stretched_as {d = d} {l₀ = l₀} other same h =
    record { kept = h.kept; before = h.before; within = λ k g m. h.within k g m ∙ same k g m (get_or l₀ k d); past = h.past }

pub stretched_both : {Y : Type 0} {rule : ℕ → Y → Y} {d : Y} {a b c : ℕ} {l₀ l₁ l₂ : List Y} → a ≤ b → b ≤ c → Stretched rule d a b l₀ l₁ → Stretched rule d b c l₁ l₂ → Stretched rule d a c l₀ l₂
stretched_both {rule = rule} {d = d} {a = a} {b = b} {c = c} {l₀ = l₀} {l₁ = l₁} {l₂ = l₂} p q h g = record {
  kept = g.kept ∙ h.kept;
  before = λ k m. g.before k (omega arith) ∙ h.before k m;
  within = λ k m n. pick k m n (side k b);
  past = λ k m. g.past k m ∙ h.past k (omega arith);
}
  where
    pick : (k : ℕ) → a ≤ k → k < c → (k < b) ⊎ (b ≤ k) → get_or l₂ k d ≡ rule k (get_or l₀ k d)
    pick k m n (inl u) = g.before k u ∙ h.within k m u
    pick k m n (inr u) = g.within k u n ∙ ap (rule k) (h.past k u)

pub stretched_whole : {Y : Type 0} {rule : ℕ → Y → Y} {d : Y} {n : ℕ} {l₀ l : List Y} → n ≤ length l₀ → Stretched rule d 0 n l₀ l → l ≡ updated rule n l₀
stretched_whole {rule = rule} {d = d} {n = n} {l₀ = l₀} {l = l} fits h =
    ext_get_or d l (updated rule n l₀) (h.kept ∙ sym (updated_length rule 0 n l₀)) (λ k m. pick k m (side k n))
  where
    pick : (k : ℕ) → k < length l → (k < n) ⊎ (n ≤ k) → get_or l k d ≡ get_or (updated rule n l₀) k d
    pick k m (inl u) =
        let z : 0 + k ≡ k = omega arith in
        h.within k (omega arith) u ∙ sym (updated_within rule d 0 n l₀ k u (omega arith) ∙ ap (λ (j : ℕ). rule j (get_or l₀ k d)) z)
    pick k m (inr u) = h.past k u ∙ sym (updated_past rule d 0 n l₀ k u)
