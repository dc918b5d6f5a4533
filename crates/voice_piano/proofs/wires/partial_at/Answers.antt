-- `voice_piano::wires::partial_at` meets its contract. Assumes nothing.
use Rattle.voice_piano.specs.Wires.{added, moved}
use Rattle.std.proofs.Common.{rules}
use Rattle.voice_piano.proofs.wires.partial_at.Goals as goal

pub returns : goal.returns
unfolding added moved
returns c =
    let p = c.requires in
    (rw (p.0, p.1), rw (c.wrap-2.ensures, c.wrap.ensures))
