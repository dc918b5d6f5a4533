-- `voice_piano::wires::store_turns` meets its contract. Assumes nothing.
use Rattle.voice_piano.specs.Block.{turns_of}
use Rattle.std.proofs.Common.{rules}
use Rattle.voice_piano.proofs.wires.store_turns.Goals as goal

pub returns : goal.returns
unfolding turns_of
returns c = c.store.ensures
