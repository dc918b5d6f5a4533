-- The length is by a law, so that no list of so many bytes is computed.
use Rattle.std.proofs.Common.{ℕ, sym}
use lib.ListN.{length-replicate}
use Rattle.vectors.proofs.input.buffer.Goals as goal

pub returns : goal.returns
returns g c = sym (length-replicate {A = ℕ} _ 0)
