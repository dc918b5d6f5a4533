-- A note's frames in four stretches, one for each stage of its envelope: together they are the mix. Assumes nothing.
use Rattle.std.proofs.Common.{◌≡◌, ℕ, ◌≤◌, List, length, get_or, ap, le_trans, arith}
use lib.Ieee.{Float, nan}
use Rattle.ieee.specs.Numbers.{f32}
use Rattle.ieee.specs.Binary32.{◌⊕◌, ◌⊗◌}
use Rattle.osc.specs.Phase.{seconds}
use Rattle.dsl.specs.declared.knobs.Adsr.{Adsr}
use Rattle.envelope.specs.Envelope.{adsr_env, release_start, adsr_at}
use Rattle.mix.specs.Mix.{gained_by, gained, mixed}
use Rattle.mix.specs.Stretch.{Stretched}
use Rattle.mix.proofs.Stretching.{stretched_as, stretched_both, stretched_whole}

-- a is where the attack ends, d the decay and s the sustain, among n frames
module _ (note : List Float) (env : Adsr) (len rate : ℕ) (gain : Float) {rel : Float} (R : rel ≡ release_start env len rate) where
  level_is : (y : Float) (k : ℕ) → gained_by note (λ i. adsr_env (seconds (f32 rate) i) env rel) gain k y ≡ gained note env len rate gain k y
  unfolding adsr_at
  level_is y k = ap (λ (r : Float). y ⊕ get_or note k nan ⊗ adsr_env (seconds (f32 rate) k) env r ⊗ gain) R

  module _ {n a d s : ℕ} {l₀ l₁ l₂ l₃ l₄ : List Float}
      (h₁ : Stretched (gained_by note (λ i. adsr_env (seconds (f32 rate) i) env rel) gain) nan 0 a l₀ l₁)
      (h₂ : Stretched (gained_by note (λ i. adsr_env (seconds (f32 rate) i) env rel) gain) nan a d l₁ l₂)
      (h₃ : Stretched (gained_by note (λ i. adsr_env (seconds (f32 rate) i) env rel) gain) nan d s l₂ l₃)
      (h₄ : Stretched (gained_by note (λ i. adsr_env (seconds (f32 rate) i) env rel) gain) nan s n l₃ l₄) where
    pub staged_by_envelope : a ≤ d → d ≤ s → s ≤ n → n ≡ length note → n ≤ length l₀ → l₄ ≡ mixed note env len rate gain l₀
    unfolding mixed
    staged_by_envelope ad ds sn e fits =
        let last = stretched_both ds sn h₃ h₄ in
        let later = stretched_both ad (le_trans ds sn) h₂ last in
        let all = stretched_both (omega arith) (le_trans ad (le_trans ds sn)) h₁ later in
        rw e at (stretched_whole fits (stretched_as (gained note env len rate gain) (λ k g m y. level_is y k) all))
