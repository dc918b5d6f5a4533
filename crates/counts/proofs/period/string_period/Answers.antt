-- `counts::period::string_period` meets its contract: each call by what it ensures. Assumes nothing.
use Rattle.std.proofs.Common.{◌≡◌, ℕ, ◌<◌, ◌≤◌, max, ap, ◌∙◌, arith, rules}
use lib.Ieee.{to_unsigned}
use Rattle.ieee.specs.Numbers.{c2, c20, f32}
use Rattle.ieee.specs.Binary32.{◌⊘◌}
use Rattle.ieee.specs.Order.{clamp_of}
use Rattle.ieee.specs.Whole.{round_of}
use Rattle.counts.specs.Period.{period_of}
use Rattle.counts.proofs.period.string_period.Goals as goal

low : (k : ℕ) → k < 2 → 2 ≡ max k 2
low k h = omega arith

high : (k : ℕ) → 2 ≤ k → k ≡ max k 2
high k h = omega arith

pub returns-then-period-lt2 : goal.returns-then-period-lt2
unfolding period_of
returns-then-period-lt2 c =
    let rounded : let a = c.args in c.f32_to_usize-period.result ≡ to_unsigned 64 (round_of (f32 a.rate ⊘ clamp_of a.first c20 (f32 a.rate ⊘ c2))) = rw (
      c.f32_to_usize-period.ensures,
      c.round_f32.ensures,
      c.clamp_f32-pitch.ensures,
      c.nearest_u32_to_f32-srf.ensures,
    ) in
    low _ c.if-period-lt2.true ∙ ap (λ (k : ℕ). max k 2) rounded

pub returns-else-period-lt2 : goal.returns-else-period-lt2
unfolding period_of
returns-else-period-lt2 c =
    let rounded : let a = c.args in c.f32_to_usize-period.result ≡ to_unsigned 64 (round_of (f32 a.rate ⊘ clamp_of a.first c20 (f32 a.rate ⊘ c2))) = rw (
      c.f32_to_usize-period.ensures,
      c.round_f32.ensures,
      c.clamp_f32-pitch.ensures,
      c.nearest_u32_to_f32-srf.ensures,
    ) in
    high _ c.if-period-lt2.false ∙ ap (λ (k : ℕ). max k 2) rounded
