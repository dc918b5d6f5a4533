-- `tempo::walk::tempo_map_seconds_at` meets its contract. Assumes nothing.
use Rattle.tempo.specs.Map.{points, seconds_at}
use Rattle.tempo.proofs.Walking.{begun_next}
use Rattle.std.proofs.Common.{rules}
use Rattle.tempo.proofs.walk.tempo_map_seconds_at.Goals as goal

pub returns : goal.returns
unfolding seconds_at
returns c = rw (c.seconds.ensures, c.walk_to-w.ensures, c.begin.ensures, begun_next (points c.args.map))
