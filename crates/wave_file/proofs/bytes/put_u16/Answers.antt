-- `wave_file::bytes::put_u16` meets its contract. Assumes nothing.
use native.Mathlib.Omega.{arith}
use Rattle.wave_file.proofs.Fields.{placed_two}
use lib.ListN.{length-set}
use borrow.Author.Rules.{rules}
use Rattle.wave_file.proofs.bytes.put_u16.Goals as goal

pub bounds-file-at-2 : goal.bounds-file-at-2
bounds-file-at-2 c = simp length-set (omega arith)

pub returns : goal.returns
returns c = placed_two _ _ _ c.requires
