-- `voice_waves::pulse::pulse` meets its contract: each call by what it ensures, and at no jump the level. Assumes nothing.
use mathlib.Core.Path.{◌∙◌}
use Rattle.voice_waves.specs.Pulse.{pulse_of}
use Rattle.voice_waves.proofs.Levels.{pulse_level_lem}
use borrow.Author.Rules.{rules}
use Rattle.voice_waves.proofs.pulse.pulse.Goals as goal

pub returns-then-phase-dt : goal.returns-then-phase-dt
unfolding pulse_of
returns-then-phase-dt c = rw (c.poly_blep-then-phase-dt.ensures, c.poly_blep.ensures, c.level-v.ensures)

pub returns : goal.returns
returns c =
    let p = c.args in
    c.level-v.ensures
    ∙ pulse_level_lem p.phase p.duty p.second p.dt c.if-phase-dt.false c.if-phase-high.false c.if-second-dt.false c.if-second-high.false
