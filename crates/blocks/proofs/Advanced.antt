-- Use for the loop that advances a voice's state over a block and writes a row of what each frame's state asks for. `Advanced` is the loop's invariant.
-- Proved for any state, any step and any rows. Assumes nothing.
use Prim.Native.Nat.{ℕ, ◌+◌, ◌*◌, ◌≤◌, ◌<◌}
use mathlib.Core.Path.{◌≡◌, refl, sym, ap, ◌∙◌, subst}
use mathlib.Core.List.{List}
use native.Mathlib.Nat.{add-mul, one-mul, mul-le-mul_right, le_trans}
use native.Mathlib.Omega.{arith}
use native.Mathlib.Numerals.{add-one}
use lib.ListN.{length}
use Rattle.laws.specs.Run.{iterate}
use Rattle.blocks.specs.Stored.{written}
use Rattle.blocks.proofs.Rows.{Rows, rows_none, rows_more, rows_all, written_length}

-- k of n frames are done, in a table of m places; `next j` is what frame j makes of the state
pub record Advanced {S Y : Type 0} (next : ℕ → S → S) (start : S) (row : S → List Y) (w : ℕ) (d : Y) (m n k : ℕ) (x : List Y) (s : S) : Type 0 where
  pub within : k ≤ n
  pub kept : length x ≡ m
  pub rows : Rows w (λ j. row (iterate next start j)) d k x
  pub is : s ≡ iterate next start k

module _ {S Y : Type 0} {next : ℕ → S → S} {start : S} {row : S → List Y} {w : ℕ} {d : Y} {m n : ℕ} where
  pub advanced_none : {x : List Y} → length x ≡ m → Advanced next start row w d m n 0 x start
  unfolding iterate
  advanced_none e = record { within = omega arith; kept = e; rows = rows_none; is = refl }

  pub advanced_more :
      {k : ℕ} {x x' : List Y} {s s' : S} →
      Advanced next start row w d m n k x s →
      k < n →
      n * w ≤ m →
      ((s : S) → length (row s) ≡ w) →
      x' ≡ written x (k * w) (row s) →
      s' ≡ next k s →
      Advanced next start row w d m n (k + 1) x' s'
  unfolding iterate
  advanced_more {k} {x} {x'} {s} h lt room long e z = record {
    within = omega arith;
    kept = ap length e ∙ written_length x (k * w) (row s) ∙ h.kept;
    rows = rows_more h.rows (long s) (subst (λ (l : ℕ). k * w + w ≤ l) (sym h.kept) (le_trans inside room)) (ap row h.is) e;
    is = rw add-one (z ∙ ap (next k) h.is);
  }
    where
      more : k < n → k + 1 ≤ n
      more l = omega arith

      inside : k * w + w ≤ n * w
      inside = subst (λ (j : ℕ). j ≤ n * w) (add-mul k 1 w ∙ ap (λ (j : ℕ). k * w + j) (one-mul w)) (mul-le-mul_right w (more lt))

  pub advanced_rows : {k : ℕ} {x : List Y} {s : S} → Advanced next start row w d m n k x s → n ≤ k → Rows w (λ j. row (iterate next start j)) d n x
  advanced_rows h le = rows_all h.rows (omega (arith, h.within))

  pub advanced_state : {k : ℕ} {x : List Y} {s : S} → Advanced next start row w d m n k x s → n ≤ k → s ≡ iterate next start n
  advanced_state {k} h le = let e : k ≡ n = omega (arith, h.within) in h.is ∙ ap (iterate next start) e
