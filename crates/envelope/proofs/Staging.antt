-- Use where the stage at a time is known: the stage's own value is the envelope. And the ends of the stages are the frames of each. Assumes nothing.
use Rattle.std.proofs.Common.{◌≡◌, ℕ, ◌<◌, ◌≤◌, Bool, true, false, cond, sym, refl, ap, ◌∙◌, arith}
use lib.Ieee.{Float, lt}
use Rattle.laws.proofs.If.{if_true, if_false}
use Rattle.ieee.specs.Numbers.{f32}
use Rattle.ieee.specs.Binary32.{◌⊕◌}
use Rattle.osc.specs.Phase.{seconds}
use Rattle.dsl.specs.declared.knobs.Adsr.{Adsr}
use Rattle.envelope.specs.Envelope.{adsr_env, release_start}
use Rattle.envelope.proofs.ByTests.{in_attack, in_decay, in_sustain, in_release}
use Rattle.envelope.specs.Stages.{attack_of, decay_of, release_of, stage_of, Parted, InStage, Staged}
use Rattle.envelope.specs.declared.Stage.{Stage}
use Rattle.envelope.specs.declared.Stage.TheVariants.{Attack, Decay, Sustain, Release}
use Rattle.envelope.specs.declared.Stages.{Stages}

-- what the tests said, by the stage that they give
abbrev chosen : Bool → Bool → Bool → Stage
chosen a d r = cond a Attack (cond d Decay (cond r Sustain Release))

told_attack : (a d r : Bool) → Attack ≡ chosen a d r → a ≡ true
told_attack true d r e = refl
told_attack false true r e = cc
told_attack false false true e = cc
told_attack false false false e = cc

told_decay : (a d r : Bool) → Decay ≡ chosen a d r → (a ≡ false) × (d ≡ true)
told_decay true d r e = (cc, cc)
told_decay false true r e = (refl, refl)
told_decay false false true e = (refl, cc)
told_decay false false false e = (refl, cc)

told_sustain : (a d r : Bool) → Sustain ≡ chosen a d r → (a ≡ false) × (d ≡ false) × (r ≡ true)
told_sustain true d r e = (cc, cc, cc)
told_sustain false true r e = (refl, cc, cc)
told_sustain false false true e = (refl, refl, refl)
told_sustain false false false e = (refl, refl, cc)

told_release : (a d r : Bool) → Release ≡ chosen a d r → (a ≡ false) × (d ≡ false) × (r ≡ false)
told_release true d r e = (cc, cc, cc)
told_release false true r e = (refl, cc, cc)
told_release false false true e = (refl, refl, cc)
told_release false false false e = (refl, refl, refl)

module _ (t : Float) (env : Adsr) (rel : Float) where
  pub by_attack : Attack ≡ stage_of t env rel → attack_of t env ≡ adsr_env t env rel
  unfolding stage_of
  by_attack e = in_attack t env rel (told_attack (lt t env.a) (lt t (env.a ⊕ env.d)) (lt t rel) e)

  pub by_decay : Decay ≡ stage_of t env rel → decay_of t env ≡ adsr_env t env rel
  unfolding stage_of
  by_decay e = let told = told_decay (lt t env.a) (lt t (env.a ⊕ env.d)) (lt t rel) e in in_decay t env rel told.0 told.1

  pub by_sustain : Sustain ≡ stage_of t env rel → env.s ≡ adsr_env t env rel
  unfolding stage_of
  by_sustain e = let told = told_sustain (lt t env.a) (lt t (env.a ⊕ env.d)) (lt t rel) e in in_sustain t env rel told.0 told.1 told.2

  pub by_release : Release ≡ stage_of t env rel → release_of t env rel ≡ adsr_env t env rel
  unfolding stage_of
  by_release e = let told = told_release (lt t env.a) (lt t (env.a ⊕ env.d)) (lt t rel) e in in_release t env rel told.0 told.1 told.2

-- a is where the attack ends, d the decay and s the sustain, among n frames
module _ (env : Adsr) (len rate : ℕ) {n a d s : ℕ} {rel : Float}
    (R : rel ≡ release_start env len rate)
    (A : Parted (λ i. lt (seconds (f32 rate) i) env.a) 0 n a)
    (D : Parted (λ i. lt (seconds (f32 rate) i) (env.a ⊕ env.d)) a n d)
    (S : Parted (λ i. lt (seconds (f32 rate) i) rel) d n s) where
  pub staged : Staged env len rate n (record { rel_start = rel; attack = a; decay = d; sustain = s })
  unfolding stage_of
  staged = record {
    release_is = R;
    attack_most = D.least;
    decay_most = S.least;
    sustain_most = S.most;
    attack = record { at = λ i g m. if_true _ (A.before i g m) refl };
    decay = record { at = λ i g m. if_false _ (A.after i g (under i d n m D.most)) (if_true _ (D.before i g m) refl) };
    sustain = record {
      at = λ i g m. if_false _ (A.after i (over a d i D.least g) (under i s n m S.most)) (if_false _ (D.after i g (under i s n m S.most)) (if_true _ (S.before i g m) refl));
    };
    release = record {
      at = λ i g m. if_false _ (A.after i (over a d i D.least (over d s i S.least g)) m) (if_false _ (D.after i (over d s i S.least g) m) (if_false _ (S.after i g m) refl));
    };
  }
    where
      under : (k x y : ℕ) → k < x → x ≤ y → k < y
      under k x y p q = omega arith

      over : (x y k : ℕ) → x ≤ y → y ≤ k → x ≤ k
      over x y k p q = omega arith
