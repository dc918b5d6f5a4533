-- `wave_write::header::put_data` meets its contract. Assumes nothing.
use native.Mathlib.Omega.{arith}
use mathlib.Core.Path.{refl}
use Rattle.wave_file.specs.Bytes.{little_endian}
use Rattle.wave_file.proofs.Fields.{placed_both}
use borrow.Author.Rules.{rules}
use Rattle.wave_write.proofs.header.put_data.Goals as goal

pub returns : goal.returns
unfolding little_endian
returns c =
    placed_both (omega (arith, c.requires)) refl c.put_u32.ensures c.put_u32-2.ensures
