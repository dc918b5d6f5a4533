-- A note's frames in four stretches, one for each stage of its envelope: together they are the mix. Assumes nothing.
use Rattle.std.proofs.Common.{◌≡◌, ℕ, ◌<◌, ◌≤◌, List, length, get_or, ap, arith}
use lib.Ieee.{Float, nan, lt}
use Rattle.ieee.specs.Numbers.{f32}
use Rattle.ieee.specs.Binary32.{◌⊕◌, ◌⊗◌}
use Rattle.osc.specs.Phase.{seconds}
use Rattle.dsl.specs.declared.knobs.Adsr.{Adsr}
use Rattle.envelope.specs.Envelope.{adsr_env, release_start, adsr_at}
use Rattle.envelope.specs.Stages.{attack_of, decay_of, release_of, Parted}
use Rattle.envelope.proofs.ByTests.{in_attack, in_decay, in_sustain, in_release}
use Rattle.mix.specs.Mix.{gained_by, gained, mixed}
use Rattle.mix.specs.Stretch.{Stretched}
use Rattle.mix.proofs.Stretching.{stretched_as, stretched_both, stretched_whole}

-- a is where the attack ends, d the decay and s the sustain, among n frames
module _ (note : List Float) (env : Adsr) (len rate : ℕ) (gain : Float) {n a d s : ℕ}
    (A : Parted (λ i. lt (seconds (f32 rate) i) env.a) 0 n a)
    (D : Parted (λ i. lt (seconds (f32 rate) i) (env.a ⊕ env.d)) a n d)
    (S : Parted (λ i. lt (seconds (f32 rate) i) (release_start env len rate)) d n s) where
  -- the level of a stage is the envelope, frame by frame
  levelled : {from to : ℕ} {l₀ l : List Float} (level : ℕ → Float) → ((k : ℕ) → from ≤ k → k < to → level k ≡ adsr_env (seconds (f32 rate) k) env (release_start env len rate))
      → Stretched (gained_by note level gain) nan from to l₀ l → Stretched (gained note env len rate gain) nan from to l₀ l
  unfolding adsr_at
  levelled level same h = stretched_as (gained note env len rate gain) (λ k g m y. ap (λ (v : Float). y ⊕ get_or note k nan ⊗ v ⊗ gain) (same k g m)) h

  module _ {l₀ l₁ l₂ l₃ l₄ : List Float}
      (h₁ : Stretched (gained_by note (λ i. attack_of (seconds (f32 rate) i) env) gain) nan 0 a l₀ l₁)
      (h₂ : Stretched (gained_by note (λ i. decay_of (seconds (f32 rate) i) env) gain) nan a d l₁ l₂)
      (h₃ : Stretched (gained_by note (λ i. env.s) gain) nan d s l₂ l₃)
      (h₄ : Stretched (gained_by note (λ i. release_of (seconds (f32 rate) i) env (release_start env len rate)) gain) nan s n l₃ l₄) where
    pub staged : n ≡ length note → n ≤ length l₀ → l₄ ≡ mixed note env len rate gain l₀
    unfolding mixed
    staged e fits =
        let rel = release_start env len rate in
        let attack = levelled _ (λ k g m. in_attack (seconds (f32 rate) k) env rel (A.before k g m)) h₁ in
        let decay = levelled _ (λ k g m. in_decay (seconds (f32 rate) k) env rel (A.after k g (under k d n m D.most)) (D.before k g m)) h₂ in
        let sustain =
        levelled _ (λ k g m.
        in_sustain (seconds (f32 rate) k) env rel (A.after k (over a d k D.least g) (under k s n m S.most)) (D.after k g (under k s n m S.most)) (S.before k g m))
        h₃ in
        let release =
        levelled _ (λ k g m.
        in_release (seconds (f32 rate) k) env rel (A.after k (over a d k D.least (over d s k S.least g)) m) (D.after k (over d s k S.least g) m) (S.after k g m))
        h₄ in
        let last = stretched_both S.least S.most sustain release in
        let later = stretched_both D.least D.most decay last in
        let all = stretched_both A.least A.most attack later in
        rw e at (stretched_whole fits all)
      where
        under : (k x y : ℕ) → k < x → x ≤ y → k < y
        under k x y p q = omega arith

        over : (x y k : ℕ) → x ≤ y → y ≤ k → x ≤ k
        over x y k p q = omega arith
