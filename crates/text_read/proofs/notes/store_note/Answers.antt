-- `text_read::notes::store_note` meets its contract. Assumes nothing.
use Prim.Native.Nat.{◌*◌}
use Rattle.text_read.proofs.Gather.{stored}
use Rattle.text_read.proofs.notes.store_note.Goals as goal

pub returns : goal.returns
returns c = stored c.args.words.now (c.args.n * 5) c.copy_from_slice.ensures.after
