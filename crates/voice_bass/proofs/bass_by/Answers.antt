-- `voice_bass::bass_by` meets its contract. Assumes nothing.
use Rattle.voice_bass.proofs.Bass.{bass_frame}
use Rattle.voice_bass.proofs.bass_by.Goals as goal

pub returns : goal.returns
returns c =
    let p = c.args in
    bass_frame p.a p.e p.fi p.bass p.srf p.s c.phase_step-dt.ensures c.saw.ensures c.drive-body.ensures c.sin-sine.ensures c.wrap-phase.ensures c.wrap-sub.ensures
