-- The sentences of the card about ticks. Assumes nothing.
use Prim.Native.Nat.{ℕ}
use mathlib.Core.Path.{◌≡◌, refl}
use mathlib.Core.List.{List, [], ◌∷◌}
use mathlib.Core.Bool.{Bool, true, false, cond, ◌&&◌, ◌||◌, or-true, or-false}
use lib.ListN.{length}
use lib.Dec.{eqb}
use native.Mathlib.Omega.{arith}
use borrow.Author.Tests.{ne_eqb}
use Rattle.board.specs.Registers.{Registers, fill}
use Rattle.board.specs.Tick.{plus_zero, running, standing, tick_of}

module _ (m : Registers) where
  -- "takes the oldest sample"
  pub takes_oldest : (oldest : ℕ) (others : List ℕ) → m.run ≡ true → m.waiting ≡ oldest ∷ others
      → ((tick_of m).played ≡ oldest) × ((tick_of m).taken ≡ oldest ∷ []) × ((tick_of m).after.waiting ≡ others)
  unfolding tick_of
  takes_oldest oldest others e w = (rw (e, w), rw (e, w), rw (e, w))

  -- "or plays plus zero and sets underrun if none waits"
  pub plays_zero_empty : m.run ≡ true → m.waiting ≡ [] → ((tick_of m).played ≡ plus_zero) × ((tick_of m).taken ≡ []) × ((tick_of m).after.underrun ≡ true)
  unfolding tick_of
  plays_zero_empty e w = (rw (e, w), rw (e, w), rw (e, w))

  -- "with run clear it plays plus zero and takes none"
  pub plays_zero_stopped : m.run ≡ false → ((tick_of m).played ≡ plus_zero) × ((tick_of m).taken ≡ []) × ((tick_of m).after ≡ m)
  unfolding tick_of
  plays_zero_stopped e = (rw e, rw e, rw e)

  running_underrun : (w : List ℕ) → (running m w).after.underrun ≡ (m.underrun || eqb (length w) 0)
  running_underrun [] = rw (or-true m.underrun)
  running_underrun (x ∷ w) =
      let n : length (x ∷ w) ≡ 0 → ⊥ = λ e. omega arith in
      rw (ne_eqb (length (x ∷ w)) 0 n, or-false m.underrun)

  underrun_by : (b : Bool) → (cond b (running m m.waiting) (standing m)).after.underrun ≡ (m.underrun || (b && eqb (fill m) 0))
  underrun_by true = running_underrun m.waiting
  underrun_by false = rw (or-false m.underrun)

  -- underrun is set by exactly a tick with run set and no sample waiting
  pub tick_underrun : (tick_of m).after.underrun ≡ (m.underrun || (m.run && eqb (fill m) 0))
  unfolding tick_of
  tick_underrun = underrun_by m.run

  -- a tick leaves control and mark
  kept_by : (b : Bool) (w : List ℕ) → (cond b (running m w) (standing m)).after.mark ≡ m.mark
  kept_by true [] = refl
  kept_by true (x ∷ w) = refl
  kept_by false w = refl

  pub tick_mark : (tick_of m).after.mark ≡ m.mark
  unfolding tick_of
  tick_mark = kept_by m.run m.waiting
