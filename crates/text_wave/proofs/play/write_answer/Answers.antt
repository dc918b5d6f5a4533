-- `text_wave::play::write_answer` meets its contract. Assumes nothing.
use mathlib.Core.Path.{refl}
use Rattle.text_wave.proofs.Filing.{filed_none}
use Rattle.text_wave.proofs.play.write_answer.Goals as goal

pub returns-in-Ok : goal.returns-in-Ok
returns-in-Ok c = rw c.in-Ok.is c.write_frames.ensures

pub returns-in-Err : goal.returns-in-Err
returns-in-Err c = rw c.in-Err.is (rw c.number.ensures (filed_none _ refl))
