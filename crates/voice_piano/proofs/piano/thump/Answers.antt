-- `voice_piano::piano::thump` meets its contract. Assumes nothing.
use Rattle.std.proofs.Common.{refl, rules}
use Rattle.laws.proofs.If.{if_true, if_false}
use Rattle.voice_piano.specs.Piano.{thump_of, thump_end}
use Rattle.voice_piano.proofs.piano.thump.Goals as goal

pub returns-then-t : goal.returns-then-t
unfolding thump_of thump_end
returns-then-t c = (if_true _ c.if-t.true (rw c.bi-d.ensures.0), if_true _ c.if-t.true c.bi-d.ensures.1)

pub returns : goal.returns
unfolding thump_of thump_end
returns c = (if_false _ c.if-t.false refl, if_false _ c.if-t.false refl)
