-- `voice_cowbell::cowbell_sample` meets its contract. Assumes nothing.
use Rattle.voice_cowbell.specs.Cowbell.{cowbell_of}
use Rattle.voice_cowbell.proofs.cowbell_sample.Goals as goal

pub returns : goal.returns
unfolding cowbell_of
returns c = rw (c.exp.ensures, c.tanh-b.ensures, c.sin-2.ensures, c.tanh-a.ensures, c.sin.ensures)
