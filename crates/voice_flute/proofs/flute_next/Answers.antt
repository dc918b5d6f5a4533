-- `voice_flute::flute_next` meets its contract: each call by what it ensures, the draw by its value and by the state after it. Assumes nothing.
use Rattle.voice_flute.proofs.Flute.{flute_step}
use Rattle.voice_flute.proofs.flute_next.Goals as goal

pub returns : goal.returns
returns c =
    flute_step _ _ _ _ _
    c.sin.ensures
    c.wrap-vib.ensures
    c.max_f32.ensures
    c.wrap-phase.ensures
    c.bi-breath.ensures.0
    c.bi-breath.ensures.1
