-- `rng::splitmix_mix` meets its contract: two products by what they ensure. Assumes nothing.
use Rattle.std.proofs.Common.{ℕ, ◌*◌, ◌%◌, ◌^◌, ap, ◌∙◌, rules}
use Rattle.rng.specs.SplitMix64.{mix, xor_shift}
use Rattle.rng.proofs.splitmix_mix.Goals as goal

pub returns : goal.returns
unfolding mix
returns c =
    ap (xor_shift 31) (c.wrapping_mul-b.ensures ∙ ap (λ (a : ℕ). xor_shift 27 a * 0x94D0_49BB_1331_11EB % 2 ^ 64) c.wrapping_mul-a.ensures)
