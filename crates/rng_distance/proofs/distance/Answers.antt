-- `rng_distance::distance` meets its contract. Assumes nothing.
use Rattle.std.proofs.Common.{◌≡◌, ◌+◌, ◌%◌, ◌^◌, ◌<◌, ◌∙◌, arith, rules}
use Rattle.rng_distance.proofs.Inverse.{steps_are}
use Rattle.rng_distance.proofs.distance.Goals as goal

pub returns : goal.returns
returns c d few is =
    let gap = c.wrapping_sub_u64-gap.result in
    let there : (gap + c.args.from.0) % 2 ^ 64 ≡ c.args.to.0 =
    rw (c.state.ensures, c.state-2.ensures) at c.wrapping_sub_u64-gap.ensures.value in
    c.wrapping_mul.ensures ∙ steps_are c.args.from.0 d gap (omega arith) few (there ∙ is)
