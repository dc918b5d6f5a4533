-- `sin_block::element::unsure` meets its contract. Assumes nothing.
use Prim.Native.Nat.{ℕ, ◌+◌, ◌≤◌}
use mathlib.Core.Path.{◌≡◌, sym, subst}
use mathlib.Core.Bool.{true}
use native.Mathlib.Omega.{arith}
use lib.Ieee.{Float, lt}
use Rattle.ieee.specs.Binary64.{◌⊟◌, ◌⊠◌}
use Rattle.sin_block.specs.OneSum.{d0·25}
use Rattle.select.proofs.Passed.{passed_zero}
use borrow.Author.Rules.{rules}
use Rattle.sin_block.proofs.element.unsure.Goals as goal

most : (a b : ℕ) → a ≤ 1 → b ≤ 1 → a + b ≤ 2
most a b h i = omega arith

none : (a b : ℕ) → a + b ≡ 0 → (a ≡ 0) × (b ≡ 0)
none a b h = (omega arith, omega arith)

all : (a b : ℕ) → a ≡ 0 → b ≡ 0 → a + b ≡ 0
all a b h i = omega arith

pub returns : goal.returns
returns c =
    let p = c.not_below in
    let h = c.not_below-2 in
    let t = c.args.t in (
      most p.result h.result p.ensures.0 h.ensures.0,
      λ e. let z = none p.result h.result e in
          record { below = p.ensures.1 z.0; near = subst (λ (n : Float). lt ((t ⊟ n) ⊠ (t ⊟ n)) d0·25 ≡ true) c.whole.ensures (h.ensures.1 z.1) },
      λ s. all p.result h.result (passed_zero s.below p.ensures.2)
          (passed_zero (subst (λ (n : Float). lt ((t ⊟ n) ⊠ (t ⊟ n)) d0·25 ≡ true) (sym c.whole.ensures) s.near) h.ensures.2),
    )
