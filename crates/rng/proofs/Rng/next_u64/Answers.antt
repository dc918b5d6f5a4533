-- `rng::Rng::next_u64` meets its contract. Assumes nothing.
use Rattle.std.proofs.Common.{ap, ◌∙◌, rules}
use Rattle.rng.specs.SplitMix64.{mix}
use Rattle.rng.proofs.Rng.next_u64.Goals as goal

pub returns : goal.returns
returns c = (c.splitmix_mix.ensures ∙ ap mix c.wrapping_add_u64-s.ensures.value, c.wrapping_add_u64-s.ensures.value)
