-- `harness::over_blocks::h_expf_block` meets its contract. Assumes nothing.
use native.Mathlib.Omega.{arith}
use lib.Ieee.{nan}
use borrow.Author.Rules.{rules}
use Rattle.det.specs.Single.{expf_of}
use Rattle.blocks.proofs.Block.{tabled_less}
use Rattle.harness.proofs.Copies.{gone_through}
use Rattle.harness.proofs.over_blocks.h_expf_block.Goals as goal

pub returns : goal.returns
returns c =
    let f = c.fit-n in
    let x = c.args.x in
    let t = tabled_less f.result c.expf_block.ensures.1 (omega arith) in
    (f.ensures, gone_through expf_of nan f.result x.now _ _ _ _ _ c.copy.ensures (omega arith) (omega arith) t c.copy-2.ensures)
