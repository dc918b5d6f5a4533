-- Sorting moves places and loses none, what it gives is in order, and a sum over it is the sum over the list. Assumes nothing.
use Prim.Native.Nat.{ℕ}
use mathlib.Core.Path.{◌≡◌, refl, sym, ap, ◌∙◌}
use mathlib.Core.Logic.{inl, inr}
use mathlib.Core.List.Permᴰ
use mathlib.Core.List.{List, [], ◌∷◌, map, Permᴰ}
use mathlib.Core.Bool.{Bool, true, false, cond, true≢false}
use native.Mathlib.Omega.{arith}
use lib.Dec.{ltb, leb, eqb}
use borrow.Author.Tests.{ltb-true, ltb-false, leb-true, leb-false, eqb-true, eqb-false}
use Rattle.score.specs.Score.{sum}
use Rattle.plan.specs.Order.{is_before, insert, sorted, Before, BeforeAll, InOrder}

module _ (start : ℕ → ℕ) where
  -- ---- a permutation: each place once
  insert_perm : (k : ℕ) (l : List ℕ) → Permᴰ (insert start k l) (k ∷ l)
  unfolding insert
  insert_perm k [] = Permᴰ.refl (k ∷ [])
  insert_perm k (x ∷ xs) = by (is_before start k x) (insert_perm k xs)
    where
      by : (b : Bool) → Permᴰ (insert start k xs) (k ∷ xs) → Permᴰ (cond b (k ∷ x ∷ xs) (x ∷ insert start k xs)) (k ∷ x ∷ xs)
      by true p = Permᴰ.refl (k ∷ x ∷ xs)
      by false p = Permᴰ.trans (Permᴰ.cons refl p) (Permᴰ.swap refl refl)

  -- THE THEOREM: a sorted list is a permutation of the list
  pub sorted_permutation : (l : List ℕ) → Permᴰ (sorted start l) l
  unfolding sorted
  sorted_permutation [] = Permᴰ.nil
  sorted_permutation (k ∷ ks) = Permᴰ.trans (insert_perm k (sorted start ks)) (Permᴰ.cons refl (sorted_permutation ks))

  -- ---- in order
  is_before_lem : (a b : ℕ) → is_before start a b ≡ true → Before start a b
  is_before_lem a b e = by (ltb (start a) (start b)) refl (eqb (start a) (start b)) refl e
    where
      by : (p : Bool) → ltb (start a) (start b) ≡ p → (q : Bool) → eqb (start a) (start b) ≡ q → cond p true (cond q (leb a b) false) ≡ true → Before start a b
      by true e q f t = inl (ltb-true (start a) (start b) e)
      by false e true f t = inr (eqb-true (start a) (start b) f, leb-true a b t)
      by false e false f t = absurd (true≢false (sym t))

  not_before : (a b : ℕ) → is_before start a b ≡ false → Before start b a
  not_before a b e = by (ltb (start a) (start b)) refl (eqb (start a) (start b)) refl e
    where
      by : (p : Bool) → ltb (start a) (start b) ≡ p → (q : Bool) → eqb (start a) (start b) ≡ q → cond p true (cond q (leb a b) false) ≡ false → Before start b a
      by true e q f t = absurd (true≢false t)
      by false e true f t = inr (sym (eqb-true (start a) (start b) f), omega (arith, leb-false a b t))
      by false e false f t = inl (omega (arith, ltb-false (start a) (start b) e, eqb-false (start a) (start b) f))

  before_trans : (a b c : ℕ) → Before start a b → Before start b c → Before start a c
  before_trans a b c (inl p) (inl q) = inl (omega arith)
  before_trans a b c (inl p) (inr q) = inl (omega arith)
  before_trans a b c (inr p) (inl q) = inl (omega arith)
  before_trans a b c (inr p) (inr q) = inr (omega arith, omega arith)

  before_more : (a x : ℕ) (l : List ℕ) → Before start a x → BeforeAll start x l → BeforeAll start a l
  before_more a x [] h t = tt
  before_more a x (y ∷ l) h t = (before_trans a x y h t.0, before_more a x l h t.1)

  before_insert : (a k : ℕ) (l : List ℕ) → Before start a k → BeforeAll start a l → BeforeAll start a (insert start k l)
  unfolding insert
  before_insert a k [] h t = (h, tt)
  before_insert a k (x ∷ xs) h t = by (is_before start k x) (before_insert a k xs h t.1)
    where
      by : (b : Bool) → BeforeAll start a (insert start k xs) → BeforeAll start a (cond b (k ∷ x ∷ xs) (x ∷ insert start k xs))
      by true p = (h, t)
      by false p = (t.0, p)

  insert_order : (k : ℕ) (l : List ℕ) → InOrder start l → InOrder start (insert start k l)
  unfolding insert
  insert_order k [] t = (tt, tt)
  insert_order k (x ∷ xs) t = by (is_before start k x) refl (insert_order k xs t.1)
    where
      by : (b : Bool) → is_before start k x ≡ b → InOrder start (insert start k xs) → InOrder start (cond b (k ∷ x ∷ xs) (x ∷ insert start k xs))
      by true e p = ((is_before_lem k x e, before_more k x xs (is_before_lem k x e) t.0), t)
      by false e p = (before_insert x k xs (not_before k x e) t.0, p)

  -- THE THEOREM: a sorted list is in order
  pub sorted_order : (l : List ℕ) → InOrder start (sorted start l)
  unfolding sorted
  sorted_order [] = tt
  sorted_order (k ∷ ks) = insert_order k (sorted start ks) (sorted_order ks)

-- ---- a sum does not depend on the order
pub sum_permutation : (f : ℕ → ℕ) {l m : List ℕ} → Permᴰ l m → sum (map f l) ≡ sum (map f m)
unfolding sum
sum_permutation f Permᴰ.nil = refl
sum_permutation f (Permᴰ.cons e p) = omega (arith, ap f e, sum_permutation f p)
sum_permutation f (Permᴰ.swap e g) = omega (arith, ap f e, ap f g)
sum_permutation f (Permᴰ.trans p q) = sum_permutation f p ∙ sum_permutation f q
