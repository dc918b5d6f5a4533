-- `wave_read::walk::chunk_end` meets its contract. Assumes nothing.
use native.Mathlib.Omega.{arith}
use Rattle.wave_read.proofs.Judging.{field_in}
use Rattle.wave_read.proofs.walk.chunk_end.Goals as goal

pub returns : goal.returns
returns c = omega (arith, c.u32_at-size.ensures, field_in 4 4 c.args.at c.args.file.now)
