-- The three ways in which a tick ends. Assumes nothing.
use Prim.Native.Nat.{ℕ}
use mathlib.Core.Path.{◌≡◌, refl}
use mathlib.Core.List.{List, [], ◌∷◌}
use mathlib.Core.Bool.{true, false}
use native.Mathlib.Omega.{arith}
use lib.ListN.{length}
use Rattle.board.specs.Queue.{waiting}
use Rattle.board.specs.Tick.{tick_of, Ticks}
use Rattle.board.specs.declared.queue.Queue.{Queue}
use Rattle.board.specs.declared.registers.Board.{Board}

empty : (l : List ℕ) → length l ≡ 0 → l ≡ []
empty [] e = refl
empty (x ∷ l) e = let z : ◌≡◌ {A = ℕ} 0 1 = omega arith in cc

module _ (b : Board) where
  pub stopped : b.run ≡ false → Ticks b (record { board = b; sample = 0 })
  unfolding tick_of
  stopped e = record { after = rw e; played = rw e }

  pub starved : b.run ≡ true → length (waiting b.queue) ≡ 0
      → Ticks b (record { board = record { queue = b.queue; run = b.run; enable = b.enable; underrun = true; mark = b.mark }; sample = 0 })
  unfolding tick_of
  starved e n = let w : waiting b.queue ≡ [] = empty (waiting b.queue) n in record { after = rw (e, w); played = rw (e, w) }

  pub took : (q : Queue) (x : ℕ) → b.run ≡ true → waiting b.queue ≡ x ∷ waiting q
      → Ticks b (record { board = record { queue = q; run = b.run; enable = b.enable; underrun = b.underrun; mark = b.mark }; sample = x })
  unfolding tick_of
  took q x e w = record { after = rw (e, w); played = rw (e, w) }
