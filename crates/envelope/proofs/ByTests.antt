-- Use where a frame's stage is known by the tests of `adsr_env`: the stage's own value is the envelope. Assumes nothing.
use Rattle.std.proofs.Common.{◌≡◌, Bool, true, false, cond, refl, ap, ◌∙◌}
use lib.Ieee.{Float, lt}
use Rattle.laws.proofs.If.{if_true, if_false}
use Rattle.ieee.specs.Numbers.{c0, c1}
use Rattle.ieee.specs.Binary32.{◌⊕◌, ◌⊖◌, ◌⊗◌, ◌⊘◌}
use Rattle.dsl.specs.declared.knobs.Adsr.{Adsr}
use Rattle.envelope.specs.Envelope.{level_of, punched_of, adsr_env}
use Rattle.envelope.specs.Stages.{attack_of, decay_of, release_of}

-- past its window punch does nothing
unpunched : (t punch w v : Float) → lt t w ≡ false → v ≡ punched_of t punch w v
unfolding punched_of
unpunched t punch w v h = by (lt c0 punch) (lt c0 w)
  where
    by : (p q : Bool) → v ≡ cond p (cond q (cond (lt t w) (v ⊗ (c1 ⊕ punch ⊗ (c1 ⊖ t ⊘ w))) v) v) v
    by true true = if_false _ h refl
    by true false = refl
    by false q = refl

module _ (t : Float) (env : Adsr) (rel : Float) where
  -- the level within each stage is punched, or is not since the window is past
  level_punched : {v : Float} → v ≡ level_of t env rel → punched_of t env.punch (env.a ⊕ env.d) v ≡ adsr_env t env rel
  unfolding adsr_env
  level_punched e = ap (punched_of t env.punch (env.a ⊕ env.d)) e

  pub in_attack : lt t env.a ≡ true → attack_of t env ≡ adsr_env t env rel
  unfolding attack_of level_of
  in_attack h = level_punched (if_true _ h refl)

  module _ (a : lt t env.a ≡ false) where
    pub in_decay : lt t (env.a ⊕ env.d) ≡ true → decay_of t env ≡ adsr_env t env rel
    unfolding decay_of level_of
    in_decay h = level_punched (if_false _ a (if_true _ h refl))

    module _ (d : lt t (env.a ⊕ env.d) ≡ false) where
      pub in_sustain : lt t rel ≡ true → env.s ≡ adsr_env t env rel
      unfolding level_of
      in_sustain h = unpunched t env.punch _ env.s d ∙ level_punched (if_false _ a (if_false _ d (if_true _ h refl)))

      pub in_release : lt t rel ≡ false → release_of t env rel ≡ adsr_env t env rel
      unfolding level_of release_of
      in_release h = unpunched t env.punch _ (release_of t env rel) d ∙ level_punched (if_false _ a (if_false _ d (if_false _ h refl)))
