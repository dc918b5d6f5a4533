-- `envelope::attack` meets its contract. Assumes nothing.
use Rattle.envelope.specs.Stages.{attack_of}
use Rattle.envelope.proofs.attack.Goals as goal

pub returns : goal.returns
unfolding attack_of
returns c = rw (c.punched.ensures, c.share.ensures)
