-- `mix::mix_at` meets its contract. Assumes nothing.
use Rattle.laws.proofs.Parts.{tail_put}
use Rattle.mix.specs.Mix.{mixed, mixed_at}
use Rattle.std.proofs.Common.{rules}
use Rattle.mix.proofs.mix_at.Goals as goal

pub returns : goal.returns
unfolding mixed_at
returns c =
    let at = c.args in
    tail_put (mixed _ _ _ _ _) at.start at.out.now _ c.mix.ensures
