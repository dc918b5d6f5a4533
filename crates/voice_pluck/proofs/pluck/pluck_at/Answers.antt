-- `voice_pluck::pluck::pluck_at` meets its contract: each call by what it ensures. Assumes nothing.
use Rattle.voice_pluck.specs.Pluck.{plucked}
use Rattle.std.proofs.Common.{rules}
use Rattle.voice_pluck.proofs.pluck.pluck_at.Goals as goal

pub returns : goal.returns
unfolding plucked
returns c =
    rw (
      c.ring_all-echoes.ensures,
      c.click-pick.ensures,
      c.frame_time.ensures,
    )
