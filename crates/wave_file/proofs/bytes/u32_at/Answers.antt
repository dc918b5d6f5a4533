-- `wave_file::bytes::u32_at` meets its contract. Assumes nothing.
use native.Mathlib.Omega.{arith}
use Rattle.wave_file.proofs.Fields.{field_halves}
use borrow.Author.Rules.{rules}
use Rattle.wave_file.proofs.bytes.u32_at.Goals as goal

pub returns : goal.returns
returns c = omega (arith, field_halves c.args.file.now c.args.at c.requires)
