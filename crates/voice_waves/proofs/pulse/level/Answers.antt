-- `voice_waves::pulse::level` meets its contract: each call by what it ensures. Assumes nothing.
use mathlib.Core.Path.{refl}
use Rattle.laws.proofs.If.{if_true, if_false}
use Rattle.voice_waves.specs.Pulse.{pulse_level}
use Rattle.voice_waves.proofs.pulse.level.Goals as goal

pub returns-then-phase-duty : goal.returns-then-phase-duty
unfolding pulse_level
returns-then-phase-duty c = if_true _ c.if-phase-duty.true refl

pub returns-else-phase-duty : goal.returns-else-phase-duty
unfolding pulse_level
returns-else-phase-duty c = if_false _ c.if-phase-duty.false refl
