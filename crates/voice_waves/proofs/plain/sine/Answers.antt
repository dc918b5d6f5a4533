-- `voice_waves::plain::sine` meets its contract: it is the wave by the frames of `sine_by`. Assumes nothing.
use Rattle.std.proofs.Common.{rules, ◌∙◌}
use Rattle.dsl.specs.Pitch.{pitch_at}
use Rattle.voice_waves.specs.Block.{sine_by}
use Rattle.voice_waves.proofs.Stepped.{sine_frames_lem}
use Rattle.voice_waves.proofs.plain.sine.Goals as goal

pub returns : goal.returns
returns c =
    let p = c.args in
    c.stepped.ensures sine_by (λ dt s r q. search rules) ∙ sine_frames_lem (pitch_at p.pitch p.lane.now) p.srf _
