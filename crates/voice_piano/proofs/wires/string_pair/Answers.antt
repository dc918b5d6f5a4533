-- `voice_piano::wires::string_pair` meets its contract. Assumes nothing.
use Rattle.std.proofs.Common.{refl}
use Rattle.voice_piano.specs.Wires.{pair_of}
use Rattle.voice_piano.proofs.wires.string_pair.Goals as goal

pub returns : goal.returns
unfolding pair_of
returns c = refl
