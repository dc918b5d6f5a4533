-- `envelope::adsr` meets its contract. Assumes nothing.
use Rattle.envelope.proofs.Staging.{staged}
use Rattle.std.proofs.Common.{rules}
use Rattle.envelope.proofs.adsr.Goals as goal

pub returns : goal.returns
returns c =
    let p = c.args in
    staged p.env p.len p.rate c.release_start-rel_start.ensures c.stage_end-attack.ensures c.stage_end-decay.ensures c.stage_end-sustain.ensures
