-- `wave_write::header::put_widths` meets its contract. Assumes nothing.
use native.Mathlib.Omega.{arith}
use mathlib.Core.Path.{refl}
use Rattle.wave_file.specs.Bytes.{little_endian}
use Rattle.wave_file.proofs.Fields.{placed_both}
use Prim.Native.Nat.{◌≤◌}
use lib.ListN.{length}
use borrow.Author.Rules.{rules}
use Rattle.wave_write.proofs.header.put_widths.Goals as goal

pub returns : goal.returns
unfolding little_endian
returns c =
    let l : 28 ≤ length c.args.file.now = omega (arith, c.requires.in_bounds) in
    placed_both l refl (placed_both l refl (placed_both l refl c.put_u32.ensures c.put_u16.ensures) c.put_u16-2.ensures) c.put_u16-3.ensures
