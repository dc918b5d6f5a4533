-- "Piano draws while frame / rate < 0.006 in f32; on this domain that is the formula of demand 3, and this is proved." Assumes nothing.
use Rattle.std.proofs.Common.{◌≡◌, ℕ, ◌*◌, ◌^◌, ◌<◌, ◌≤◌, min, ltb}
use Rattle.ieee.specs.Numbers.{f32}
use Rattle.ieee.specs.Binary32.{◌⊘◌}
use Rattle.dsl.specs.Domain.{Rate}
use Rattle.counts.specs.Draws.{thumps, thump_frames, passing}
use Rattle.counts.proofs.Early.{c0·006_fraction, early_is, early_count}

-- the test on f32 is the test on whole numbers
pub thump_is : (rate i : ℕ) → Rate rate → i < 2 ^ 24 → thumps (f32 i ⊘ f32 rate) ≡ ltb (500 * i) (3 * rate)
thump_is = early_is c0·006_fraction

-- of the first n frames of a note, those that draw are the draws of a piano note, whatever its first pitch
pub thump_count : (rate n : ℕ) → Rate rate → n ≤ 2 ^ 24 → passing (λ i. thumps (f32 i ⊘ f32 rate)) n ≡ min n (thump_frames rate)
thump_count = early_count c0·006_fraction
