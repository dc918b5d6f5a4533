-- `envelope::decay` meets its contract. Assumes nothing.
use Rattle.envelope.specs.Stages.{decay_of}
use Rattle.envelope.proofs.decay.Goals as goal

pub returns : goal.returns
unfolding decay_of
returns c = rw (c.punched.ensures, c.share.ensures)
