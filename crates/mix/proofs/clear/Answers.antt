-- `mix::clear` meets its contract. Assumes nothing.
use Rattle.std.proofs.Common.{sym, ◌∙◌}
use Rattle.mix.proofs.Mixing.{silence_replicated}
use Rattle.mix.proofs.clear.Goals as goal

pub returns : goal.returns
returns c = c.fill.ensures.after (λ y e. e) ∙ sym (silence_replicated _)
