-- `dsp::hz_to_midi` meets its contract. Assumes nothing.
use borrow.Author.Rules.{rules}
use Rattle.dsp.proofs.hz_to_midi.Goals as goal

pub returns : goal.returns
returns c = rw c.log2.ensures
