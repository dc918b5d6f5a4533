-- The stages of `adsr_env`, what it gives in three of them, as a loop over the frames of one stage computes it (in the sustain it is s),
-- and the frames of each. The laws of proofs/ByTests say that these are `adsr_env`.
use Rattle.std.specs.Prelude.{◌≡◌, ℕ, ◌<◌, ◌≤◌, Bool, true, false, cond, Float}
use Rattle.std.specs.Float.Ieee.{lt}
use Rattle.ieee.specs.Numbers.{c0, c1, f32}
use Rattle.ieee.specs.Binary32.{◌⊕◌, ◌⊖◌, ◌⊗◌, ◌⊘◌}
use Rattle.ieee.specs.Order.{clamp_of}
use Rattle.osc.specs.Phase.{seconds}
use Rattle.dsl.specs.declared.knobs.Adsr.{Adsr}
use Rattle.envelope.specs.Envelope.{share_of, punched_of, release_start}
use Rattle.envelope.specs.declared.Stage.{Stage}
use Rattle.envelope.specs.declared.Stage.TheVariants.{Attack, Decay, Sustain, Release}
use Rattle.envelope.specs.declared.Stages.{Stages}

unfoldable pub attack_of : Float → Adsr → Float
attack_of t env = punched_of t env.punch (env.a ⊕ env.d) (share_of t env.a)

unfoldable pub decay_of : Float → Adsr → Float
decay_of t env = punched_of t env.punch (env.a ⊕ env.d) (c1 ⊖ (c1 ⊖ env.s) ⊗ share_of (t ⊖ env.a) env.d)

unfoldable pub release_of : Float → Adsr → Float → Float
release_of t env rel = cond (lt c0 env.r) (env.s ⊗ (c1 ⊖ clamp_of ((t ⊖ rel) ⊘ env.r) c0 c1)) c0

-- the stage at t seconds, by the tests of `adsr_env`: t < a, t < a + d, t < rel_start
unfoldable pub stage_of : Float → Adsr → Float → Stage
stage_of t env rel = cond (lt t env.a) Attack (cond (lt t (env.a ⊕ env.d)) Decay (cond (lt t rel) Sustain Release))

-- the frames from `from` on and below `to` are in a stage
pub record InStage (stage : Stage) (env : Adsr) (rel : Float) (rate from to : ℕ) : Type 0 where
  pub at : (i : ℕ) → from ≤ i → i < to → stage ≡ stage_of (seconds (f32 rate) i) env rel

-- the stages of the first n frames of a note of len frames
pub record Staged (env : Adsr) (len rate n : ℕ) (s : Stages) : Type 0 where
  pub release_is : s.rel_start ≡ release_start env len rate
  pub attack_most : s.attack ≤ s.decay
  pub decay_most : s.decay ≤ s.sustain
  pub sustain_most : s.sustain ≤ n
  pub attack : InStage Attack env s.rel_start rate 0 s.attack
  pub decay : InStage Decay env s.rel_start rate s.attack s.decay
  pub sustain : InStage Sustain env s.rel_start rate s.decay s.sustain
  pub release : InStage Release env s.rel_start rate s.sustain n

-- r parts the numbers from `from` on and below n: those before it pass the test, the others do not
pub record Parted (test : ℕ → Bool) (from n r : ℕ) : Type 0 where
  pub least : from ≤ r
  pub most : r ≤ n
  pub before : (i : ℕ) → from ≤ i → i < r → test i ≡ true
  pub after : (i : ℕ) → r ≤ i → i < n → test i ≡ false
