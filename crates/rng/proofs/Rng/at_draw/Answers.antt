-- `rng::Rng::at_draw` meets its contract. Assumes nothing.
use Rattle.std.proofs.Common.{ℕ, ◌+◌, ◌*◌, ◌%◌, ◌^◌, ap, ◌∙◌, rules}
use native.Mathlib.Nat.{add-mod-mod}
use Rattle.rng.specs.SplitMix64.{gamma}
use Rattle.rng.proofs.Rng.at_draw.Goals as goal

pub returns : goal.returns
returns c =
    let a = c.args in
    c.wrapping_add_u64.ensures.value ∙ ap (λ (k : ℕ). (a.seed + k) % 2 ^ 64) c.wrapping_mul.ensures ∙ add-mod-mod a.seed (a.c * gamma) (2 ^ 64)
