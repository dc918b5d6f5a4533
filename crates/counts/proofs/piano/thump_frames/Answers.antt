-- `counts::piano::thump_frames` meets its contract. Assumes nothing.
use Rattle.std.proofs.Common.{refl, rules}
use Rattle.counts.proofs.piano.thump_frames.Goals as goal

pub returns : goal.returns
returns c = refl
