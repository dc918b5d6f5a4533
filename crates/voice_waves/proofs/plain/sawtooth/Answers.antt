-- `voice_waves::plain::sawtooth` meets its contract: it is the wave by the frames of `sawtooth_by`. Assumes nothing.
use Rattle.std.proofs.Common.{rules, ◌∙◌}
use Rattle.dsl.specs.Pitch.{pitch_at}
use Rattle.voice_waves.specs.Block.{sawtooth_by}
use Rattle.voice_waves.proofs.Stepped.{sawtooth_frames_lem}
use Rattle.voice_waves.proofs.plain.sawtooth.Goals as goal

pub returns : goal.returns
returns c =
    let p = c.args in
    c.stepped.ensures sawtooth_by (λ dt s r q. search rules) ∙ sawtooth_frames_lem (pitch_at p.pitch p.lane.now) p.srf _
