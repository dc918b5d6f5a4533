-- Use for a table of w values a frame, those of frame i from place i * w on. `Rows` is the invariant of the loop that writes them, a row a turn. Proved for any values. Assumes nothing.
use Prim.Native.Nat.{ℕ, zero, suc, ◌+◌, ◌-◌, ◌*◌, ◌≤◌, ◌<◌}
use mathlib.Core.Path.{◌≡◌, refl, sym, ap, ◌∙◌, subst}
use mathlib.Core.Logic.{◌⊎◌, inl, inr}
use mathlib.Core.List.{List, [], ◌∷◌}
use native.Mathlib.Nat.{eq-or-lt_of_le, add-mul, one-mul, mul-le-mul_right}
use native.Mathlib.Omega.{arith}
use lib.ListN.{length, get_or, set, length-set}
use lib.Seq.{get_or-set_same, get_or-set_other}
use Rattle.blocks.specs.Stored.{written}
use Rattle.blocks.proofs.Block.{Tabled}

-- the rows below n are those of `of`
pub record Rows {Y : Type 0} (w : ℕ) (of : ℕ → List Y) (d : Y) (n : ℕ) (l : List Y) : Type 0 where
  pub at : (i k : ℕ) → i < n → k < w → get_or l (i * w + k) d ≡ get_or (of i) k d

-- ---- a row written
pub written_length : {Y : Type 0} (l : List Y) (a : ℕ) (vs : List Y) → length (written l a vs) ≡ length l
unfolding written
written_length l a [] = refl
written_length l a (v ∷ vs) = written_length (set l a v) (a + 1) vs ∙ length-set l a v

written_before : {Y : Type 0} (l : List Y) (a : ℕ) (vs : List Y) (d : Y) (j : ℕ) → j < a → get_or (written l a vs) j d ≡ get_or l j d
unfolding written
written_before l a [] d j h = refl
written_before l a (v ∷ vs) d j h = written_before (set l a v) (a + 1) vs d j (omega arith) ∙ get_or-set_other l a j v d (omega arith)

written_at : {Y : Type 0} (l : List Y) (a : ℕ) (vs : List Y) (d : Y) (k : ℕ) → k < length vs → a + length vs ≤ length l → get_or (written l a vs) (a + k) d ≡ get_or vs k d
unfolding written
written_at l a [] d k h g = absurd (none k h)
  where
    none : (k : ℕ) → k < 0 → ⊥
    none k h = omega arith
written_at l a (v ∷ vs) d zero h g =
    ap (λ (j : ℕ). get_or (written (set l a v) (a + 1) vs) j d) (flat a)
    ∙ written_before (set l a v) (a + 1) vs d a (omega arith) ∙ get_or-set_same l a v d (omega arith)
  where
    flat : (a : ℕ) → a + 0 ≡ a
    flat a = omega arith
written_at l a (v ∷ vs) d (suc k) h g =
    ap (λ (j : ℕ). get_or (written (set l a v) (a + 1) vs) j d) (next a k)
    ∙ written_at (set l a v) (a + 1) vs d k (omega arith) (subst (λ (m : ℕ). a + 1 + length vs ≤ m) (sym (length-set l a v)) (omega arith))
  where
    next : (a k : ℕ) → a + suc k ≡ a + 1 + k
    next a k = omega arith

module _ {Y : Type 0} {w : ℕ} {of : ℕ → List Y} {d : Y} where
  pub rows_none : {l : List Y} → Rows w of d 0 l
  rows_none = record { at = λ i k h g. absurd (none i h) }
    where
      none : (i : ℕ) → i < 0 → ⊥
      none i h = omega arith

  pub rows_more : {n : ℕ} {l l' vs : List Y} → Rows w of d n l → length vs ≡ w → n * w + w ≤ length l → vs ≡ of n → l' ≡ written l (n * w) vs → Rows w of d (n + 1) l'
  rows_more {n} {l} {l'} {vs} h e room is z = record { at = λ i k g m. ap (λ (y : List Y). get_or y (i * w + k) d) z ∙ pick i k m (eq-or-lt_of_le (less i g)) }
    where
      less : (i : ℕ) → i < n + 1 → i ≤ n
      less i g = omega arith

      earlier : (i k : ℕ) → i < n → k < w → i * w + k < n * w
      earlier i k g m = under (i * w) (n * w) k (subst (λ (j : ℕ). j ≤ n * w) (add-mul i 1 w ∙ ap (λ (j : ℕ). i * w + j) (one-mul w)) (mul-le-mul_right w (more i g))) m
        where
          more : (i : ℕ) → i < n → i + 1 ≤ n
          more i g = omega arith

          under : (a b k : ℕ) → a + w ≤ b → k < w → a + k < b
          under a b k h m = omega arith

      pick : (i k : ℕ) → k < w → (i ≡ n) ⊎ (i < n) → get_or (written l (n * w) vs) (i * w + k) d ≡ get_or (of i) k d
      pick i k m (inl s) =
          ap (λ (j : ℕ). get_or (written l (n * w) vs) (j * w + k) d) s
          ∙ written_at l (n * w) vs d k (subst (λ (j : ℕ). k < j) (sym e) m) (subst (λ (j : ℕ). n * w + j ≤ length l) (sym e) room)
          ∙ ap (λ (y : List Y). get_or y k d) is ∙ ap (λ (j : ℕ). get_or (of j) k d) (sym s)
      pick i k m (inr g) = written_before l (n * w) vs d (i * w + k) (earlier i k g m) ∙ h.at i k g m

  pub rows_all : {i n : ℕ} {l : List Y} → Rows w of d i l → i ≡ n → Rows w of d n l
  rows_all {l = l} h e = subst (λ (k : ℕ). Rows w of d k l) e h

-- a table made from rows, place by place
pub rows_through : {X Y : Type 0} {w : ℕ} {of : ℕ → List X} (g : X → Y) {d : X} {e : Y} {n : ℕ} {x : List X} {out : List Y}
    → Rows w of d n x → Tabled (λ j. g (get_or x j d)) e 0 (n * w) out → (i k : ℕ) → i < n → k < w → get_or out (i * w + k) e ≡ g (get_or (of i) k d)
rows_through {w = w} g {d = d} {e = e} {n = n} {x = x} {out = out} r t i k h m =
    ap (λ (j : ℕ). get_or out j e) (same (i * w + k)) ∙ t.at (i * w + k) (omega arith) (inside (i * w) (n * w) whole m) ∙ ap g (r.at i k h m)
  where
    same : (k : ℕ) → k ≡ k - 0
    same k = omega arith

    more : i < n → i + 1 ≤ n
    more h = omega arith

    whole : i * w + w ≤ n * w
    whole = subst (λ (j : ℕ). j ≤ n * w) (add-mul i 1 w ∙ ap (λ (j : ℕ). i * w + j) (one-mul w)) (mul-le-mul_right w (more h))

    inside : (a b : ℕ) → a + w ≤ b → k < w → a + k < b
    inside a b h m = omega arith

-- the first of a row
pub rows_first : {X Y : Type 0} {w : ℕ} {of : ℕ → List X} (g : X → Y) {d : X} {e : Y} {n : ℕ} {x : List X} {out : List Y}
    → Rows w of d n x → Tabled (λ j. g (get_or x j d)) e 0 (n * w) out → (i : ℕ) → i < n → 0 < w → get_or out (i * w) e ≡ g (get_or (of i) 0 d)
rows_first {w = w} g {e = e} {out = out} r t i h m = ap (λ (j : ℕ). get_or out j e) (flat (i * w)) ∙ rows_through g r t i 0 h m
  where
    flat : (a : ℕ) → a ≡ a + 0
    flat a = omega arith
