-- `tempo::walk::tempo_map_bpm_at` meets its contract. Assumes nothing.
use Rattle.tempo.specs.Map.{points, bpm_at}
use Rattle.tempo.proofs.Walking.{begun_next}
use Rattle.std.proofs.Common.{rules}
use Rattle.tempo.proofs.walk.tempo_map_bpm_at.Goals as goal

pub returns : goal.returns
unfolding bpm_at
returns c = rw (c.tempo_from.ensures, c.begin.ensures, begun_next (points c.args.map))
