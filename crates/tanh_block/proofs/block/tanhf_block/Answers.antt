-- `tanh_block::block::tanhf_block` meets its contract. Assumes nothing.
use mathlib.Core.Path.{◌≡◌, refl}
use mathlib.Core.Bool.{Bool, true, false, not, true≢false}
use borrow.Author.Rules.{rules}
use Rattle.tanh_block.proofs.block.tanhf_block.Goals as goal

held : (b : Bool) → not b ≡ false → b ≡ true
held true e = refl
held false e = absurd (true≢false e)

pub returns-else-not-covered : goal.returns-else-not-covered
returns-else-not-covered c =
    record {
      e_len = c.covered.ensures.e_len;
      tabled = c.covered.ensures.tabled (held _ c.if-not-covered.false-raw);
    }
