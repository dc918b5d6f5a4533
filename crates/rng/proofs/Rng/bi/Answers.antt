-- `rng::Rng::bi` meets its contract: doubling and subtracting 1 are exact. Assumes nothing.
use Rattle.std.proofs.Common.{◌/◌, ◌^◌, ap, ◌∙◌, rules}
use lib.Ieee.{Float, binary32, sub, mul, of_bits}
use Rattle.rng.specs.SplitMix64.{next}
use Rattle.rng.proofs.States.{top_lt}
use Rattle.rng.proofs.Draws.{bi_is}
use Rattle.rng.proofs.Rng.bi.Goals as goal

pub returns : goal.returns
returns c =
    let s = c.args.self.0 in
    let drawn = c.unit-u.ensures in
    (ap (λ (u : Float). sub binary32 (mul binary32 u (of_bits binary32 0x4000_0000)) (of_bits binary32 0x3f80_0000)) drawn.0 ∙ bi_is (next s / 2 ^ 40) (top_lt s), drawn.1)
