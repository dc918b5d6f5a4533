-- `exp_block::outside` meets its contract. Assumes nothing.
use mathlib.Core.Path.{◌≡◌}
use Prim.Native.Nat.{ℕ, ◌+◌, ◌≤◌}
use native.Mathlib.Omega.{arith}
use borrow.Author.Rules.{rules}
use lib.Ieee.{of_bits}
use Rattle.select.proofs.Passed.{passed_zero}
use Rattle.exp_block.proofs.outside.Goals as goal

-- a sum is at most that of the bounds, and 0 where each number is
most : (a b c : ℕ) → a ≤ 1 → b ≤ 1 → c ≤ 1 → a + b + c ≤ 3
most a b c h i j = omega arith

none : (a b c : ℕ) → a + b + c ≡ 0 → (a ≡ 0) × (b ≡ 0) × (c ≡ 0)
none a b c h = (omega arith, omega arith, omega arith)

all : (a b c : ℕ) → a ≡ 0 → b ≡ 0 → c ≡ 0 → a + b + c ≡ 0
all a b c h i j = omega arith

pub returns : goal.returns
unfolding of_bits
returns c =
    let e3 = c.not_below-3 in
    let e2 = c.not_below-2 in
    let e1 = c.not_below in (
      most e1.result e2.result e3.result e1.ensures.0 e2.ensures.0 e3.ensures.0,
      λ h. let z = none e1.result e2.result e3.result h in record { above = e1.ensures.1 z.0; positive = e2.ensures.1 z.1; near = e3.ensures.1 z.2 },
      λ h. all e1.result e2.result e3.result (passed_zero h.above e1.ensures.2) (passed_zero h.positive e2.ensures.2) (passed_zero h.near e3.ensures.2),
    )
