-- `rng::Rng::unit` meets its contract: the top 24 bits are a whole `f32`, and the division is exact. Assumes nothing.
use Rattle.std.proofs.Common.{ℕ, ◌/◌, ◌^◌, T, pos, sym, ap, ◌∙◌, subst, le_of_lt, le→leb, rules}
use lib.Ieee.{binary32, div, of_int, of_bits, in_float}
use Rattle.rng.specs.SplitMix64.{next}
use Rattle.rng.proofs.States.{top_lt}
use Rattle.rng.proofs.Draws.{unit_is}
use Rattle.rng.proofs.Rng.unit.Goals as goal

pub int_to_float-result : goal.int_to_float-result
unfolding in_float
int_to_float-result c =
    let s = c.args.self.0 in
    subst (λ (v : ℕ). T (in_float binary32 (pos (v / 2 ^ 40)))) (sym c.next_u64-d.ensures.0) (le→leb (next s / 2 ^ 40) (2 ^ 24) (le_of_lt (top_lt s)))

pub returns : goal.returns
returns c =
    let s = c.args.self.0 in
    let drawn = c.next_u64-d.ensures in
    (ap (λ (v : ℕ). div binary32 (of_int binary32 (pos (v / 2 ^ 40))) (of_bits binary32 0x4b80_0000)) drawn.0 ∙ unit_is (next s / 2 ^ 40) (top_lt s), drawn.1)
