-- `wave_file::bytes::put_u32` meets its contract. Assumes nothing.
use native.Mathlib.Omega.{arith}
use Rattle.wave_file.proofs.Fields.{placed_halves}
use borrow.Author.Rules.{rules}
use Rattle.wave_file.proofs.bytes.put_u32.Goals as goal

pub returns : goal.returns
returns c =
    placed_halves _ (omega (arith, c.requires)) c.put_u16.ensures c.put_u16-2.ensures
