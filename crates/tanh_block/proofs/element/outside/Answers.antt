-- `tanh_block::element::outside` meets its contract. Assumes nothing.
use mathlib.Core.Path.{◌≡◌}
use Prim.Native.Nat.{ℕ, ◌+◌, ◌≤◌}
use native.Mathlib.Omega.{arith}
use borrow.Author.Rules.{rules}
use lib.Ieee.{of_bits}
use Rattle.select.proofs.Passed.{passed_zero}
use Rattle.tanh_block.proofs.Tangent.{inner_of, inner_tests}
use Rattle.tanh_block.proofs.element.outside.Goals as goal

-- a sum is at most that of the bounds, and 0 where each number is
most : (a b c d : ℕ) → a ≤ 1 → b ≤ 1 → c ≤ 1 → d ≤ 1 → a + b + c + d ≤ 4
most a b c d h i j k = omega arith

none : (a b c d : ℕ) → a + b + c + d ≡ 0 → (a ≡ 0) × (b ≡ 0) × (c ≡ 0) × (d ≡ 0)
none a b c d h = (omega arith, omega arith, omega arith, omega arith)

all : (a b c d : ℕ) → a ≡ 0 → b ≡ 0 → c ≡ 0 → d ≡ 0 → a + b + c + d ≡ 0
all a b c d h i j k = omega arith

pub returns : goal.returns
unfolding of_bits
returns c =
    let e4 = c.not_below-4 in
    let e3 = c.not_below-3 in
    let e2 = c.not_below-2 in
    let e1 = c.not_below in (
      most e1.result e2.result e3.result e4.result e1.ensures.0 e2.ensures.0 e3.ensures.0 e4.ensures.0,
      λ h. let z = none e1.result e2.result e3.result e4.result h in
          inner_of c.args.x _ c.magnitude-a.ensures (e1.ensures.1 z.0) (e2.ensures.1 z.1)
          (e3.ensures.1 z.2) (e4.ensures.1 z.3),
      λ I. let t = inner_tests c.args.x _ c.magnitude-a.ensures I in
          all e1.result e2.result e3.result e4.result (passed_zero t.0 e1.ensures.2) (passed_zero t.1 e2.ensures.2) (passed_zero t.2 e3.ensures.2)
          (passed_zero t.3 e4.ensures.2),
    )
