-- `wave_write::header::put_form` meets its contract. Assumes nothing.
use native.Mathlib.Omega.{arith}
use mathlib.Core.Path.{refl}
use Rattle.wave_file.specs.Bytes.{little_endian}
use Rattle.wave_file.proofs.Fields.{placed_both}
use borrow.Author.Rules.{rules}
use Rattle.wave_write.proofs.header.put_form.Goals as goal

pub returns : goal.returns
unfolding little_endian
returns c =
    placed_both (omega arith) refl (placed_both (omega arith) refl c.put_u32.ensures c.put_u32-2.ensures) c.put_u32-3.ensures
