-- `tempo::walk::span_at` meets its contract. Assumes nothing.
use Rattle.tempo.specs.Map.{seconds_at}
use Rattle.std.proofs.Common.{rules}
use Rattle.tempo.proofs.walk.span_at.Goals as goal

pub returns : goal.returns
unfolding seconds_at
returns c =
    let both = c.walk_both-w.ensures in
    rw (
      c.seconds-2.ensures,
      c.seconds.ensures,
      c.tempo_from.ensures,
      c.walk_to-end.ensures,
      c.walk_to-start.ensures,
      both.start,
      both.end,
      both.tempo,
    )
