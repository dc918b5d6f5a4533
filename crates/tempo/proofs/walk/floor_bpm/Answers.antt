-- `tempo::walk::floor_bpm` meets its contract. Assumes nothing.
use Rattle.std.proofs.Common.{rules}
use Rattle.tempo.proofs.walk.floor_bpm.Goals as goal

pub returns : goal.returns
returns c = rw (c.max_f64.ensures, c.f32_to_f64_with_nan.ensures)
