-- The loop that tests each number of a list: what remains decides. Assumes nothing.
use Prim.Native.Nat.{ℕ, suc, ◌+◌, ◌≤◌, ◌<◌}
use mathlib.Core.Path.{◌≡◌, sym, ◌∙◌}
use mathlib.Core.List.{List}
use mathlib.Core.Bool.{Bool, true, false, cond, ◌&&◌}
use native.Mathlib.Numerals.{add-one}
use lib.ListN.{length, drop, get_or, drop_of_length-le}
use lib.Seq.{drop-cons}
use lib.Ieee.{Float, nan}
use Rattle.dsl.specs.Sized.{sized_of, all_sized}

module _ (xs : List Float) (i : ℕ) where
  at_turn : i < length xs → all_sized (drop i xs) ≡ cond (sized_of (get_or xs i nan)) (all_sized (drop (suc i) xs)) false
  unfolding all_sized
  at_turn h = rw (drop-cons xs i nan)

  -- `all` says whether those before i are sized, b whether the one at i is
  pub passed : (all b : Bool) → b ≡ sized_of (get_or xs i nan) → i < length xs → cond all (all_sized (drop i xs)) false ≡ all_sized xs →
      cond (all && b) (all_sized (drop (i + 1) xs)) false ≡ all_sized xs
  passed true b s h e = rw (add-one, s) (sym (at_turn h) ∙ e)
  passed false b s h e = e

  pub ended : (all : Bool) → cond all (all_sized (drop i xs)) false ≡ all_sized xs → length xs ≤ i → all ≡ all_sized xs
  unfolding all_sized
  ended true e h = rw (drop_of_length-le xs h) at e
  ended false e h = e
