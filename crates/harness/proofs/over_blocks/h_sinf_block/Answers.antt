-- `harness::over_blocks::h_sinf_block` meets its contract. Assumes nothing.
use native.Mathlib.Omega.{arith}
use lib.Ieee.{nan}
use borrow.Author.Rules.{rules}
use Rattle.trig.specs.Single.{sinf_of}
use Rattle.harness.proofs.Copies.{gone_through}
use Rattle.harness.proofs.over_blocks.h_sinf_block.Goals as goal

pub returns : goal.returns
returns c =
    let f = c.fit-n in
    let x = c.args.x in
    let t = c.sinf_block.ensures.tabled in
    (f.ensures, gone_through sinf_of nan f.result x.now _ _ _ _ _ c.copy.ensures (omega arith) (omega arith) t c.copy-2.ensures)
