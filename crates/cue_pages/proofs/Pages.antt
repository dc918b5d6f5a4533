-- What follows a line: a form feed, or nothing. Assumes nothing.
use Prim.Native.Nat.{ℕ, ◌%◌, ◌≤◌, ◌<◌}
use mathlib.Core.Path.{◌≡◌, refl}
use mathlib.Core.List.{[], ◌∷◌}
use borrow.Author.Tests.{lt-ltb, le-ltb, eq-eqb, ne_eqb}
use Rattle.laws.proofs.If.{if_true, if_false}
use Rattle.cue_pages.specs.Sheet.{page_end}

module _ (count lines : ℕ) where
  pub within_page : (lines % 60 ≡ 0 → ⊥) → [] ≡ page_end count lines
  unfolding page_end
  within_page h = if_false _ (ne_eqb _ _ h) refl

  module _ (h : lines % 60 ≡ 0) where
    pub last_line : count ≤ lines → [] ≡ page_end count lines
    unfolding page_end
    last_line l = if_true _ (eq-eqb _ _ h) (if_false _ (le-ltb _ _ l) refl)

    pub page_full : lines < count → 12 ∷ [] ≡ page_end count lines
    unfolding page_end
    page_full l = if_true _ (eq-eqb _ _ h) (if_true _ (lt-ltb _ _ l) refl)
