-- `voice_epiano::epiano_note` meets its contract. Assumes nothing.
use native.Mathlib.Omega.{arith}
use borrow.Author.Rules.{rules}
use Rattle.laws.proofs.Fill.{filled_none, filled_frames}
use Rattle.dsl.proofs.Reach.{reaches_less}
use Rattle.voice_epiano.specs.Epiano.{epiano_at, epiano_frames}
use Rattle.voice_epiano.proofs.epiano_note.Goals as goal

pub returns-then-out-eq0 : goal.returns-then-out-eq0
unfolding epiano_frames
returns-then-out-eq0 c = filled_frames {step = λ i. epiano_at _ _ _ _ i} {sample = λ r. r.sample} {state = λ r. r.state} filled_none (omega arith) (omega arith)

pub at-requires : goal.at-requires
at-requires c = reaches_less c.args.pitch _ _ _ c.requires.reaches (omega arith)

pub returns : goal.returns
unfolding epiano_frames
returns c = rw (← c.at.ensures, ← c.epiano_decay-decay.ensures) c.sound_epiano.ensures
