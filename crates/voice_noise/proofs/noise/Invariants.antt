-- The loops of `voice_noise::noise`.
use Prim.Native.Nat.{ℕ, ◌-◌}
use mathlib.Core.Path.{◌∙◌}
use native.Mathlib.Omega.{arith}
use borrow.Author.Rules.{rules}
use lib.ListN.{length}
use Rattle.laws.proofs.Fill.{Filled, filled_none, filled_length, filled_more_parts, filled_frames, filled_state}
use Rattle.rng.specs.SplitMix64.{advance}
use Rattle.rng.specs.Draw.{bi_from}
use Rattle.voice_noise.specs.Noise.{noise_frames}
use Rattle.voice_noise.proofs.Draws.{noise_draws}
use Rattle.voice_noise.proofs.noise.Given as goal

abbrev pub invariant-loop-i : goal.invariant-loop-i
invariant-loop-i l = Filled (λ (i : ℕ) (s : ℕ). s) bi_from advance l.initial.rng.0 l.initial.out l.i l.out l.rng.0
