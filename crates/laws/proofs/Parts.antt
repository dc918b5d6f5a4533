-- Use where a callee was lent a part of a slice: `&mut s[a..]`, to which it did g, and what the whole slice holds after; or `&mut s[..e]`, and what stays past it.
-- Assumes nothing.
use Prim.Native.Nat.{ℕ, ◌+◌, ◌≤◌, ◌-◌}
use mathlib.Core.Path.{◌≡◌, sym, ap, ◌∙◌}
use mathlib.Core.List.{List, ◌++◌, append-nil}
use native.Mathlib.Omega.{arith}
use lib.ListN.{length, take, drop, length-drop, drop_of_length-le}
use lib.Seq.{take_all, drop-append-add, drop-drop}
use borrow.Rule.Slice.PartMut.{mid_of, put_mid}

module _ {X : Type 0} (g : List X → List X) (a : ℕ) (xs ys : List X) where
  pub tail_put : ys ≡ g (mid_of a (length xs - a) xs) → put_mid a (length xs - a) xs ys ≡ take a xs ++ g (drop a xs)
  tail_put e =
      let n : length (drop a xs) ≤ length xs - a = omega (arith, length-drop a xs) in
      rw (drop_of_length-le (drop a xs) n, append-nil) (ap (λ (l : List X). take a xs ++ l) (e ∙ ap g (take_all (length xs - a) (drop a xs) n)))

-- where A was written over the first e values, what stands past m of them stays
pub kept_past : {X : Type 0} (m : ℕ) (A l : List X) (e : ℕ) → length A ≡ e → e ≤ m → drop m (A ++ drop e l) ≡ drop m l
kept_past {X} m A l e len most =
    let z : length A + (m - e) ≡ m = omega arith in
    let y : e + (m - e) ≡ m = omega arith in
    ap (λ (k : ℕ). drop k (A ++ drop e l)) (sym z) ∙ drop-append-add A (drop e l) (m - e) ∙ drop-drop (m - e) e l ∙ ap (λ (k : ℕ). drop k l) y
