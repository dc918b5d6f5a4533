-- A frame of the electric piano from what its calls gave, in the order of the code, is the definition's. Assumes nothing.
use mathlib.Core.Path.{◌≡◌, refl, ap, ◌∙◌}
use Prim.Native.Nat.{ℕ}
use lib.Ieee.{Float, neg}
use Rattle.ieee.specs.Numbers.{c0·5}
use Rattle.ieee.specs.Binary32.{◌⊗◌, ◌⊘◌}
use Rattle.dsp.specs.Kernels.{TAU, sin_of, exp_of}
use Rattle.osc.specs.Phase.{increment, seconds}
use Rattle.frame_block.specs.Decay.{decay_at}
use Rattle.voice_epiano.specs.Epiano.{c0·035, bent_of, epiano_at}
use Rattle.voice_epiano.specs.Block.{body_turn, tine_turn, epiano_mix, epiano_next}
use Rattle.voice_epiano.specs.declared.EpianoState.{EpianoState}
use Rattle.osc.specs.declared.Out.{Out}

module _ (fi gain srf decay : Float) (i : ℕ) (s : EpianoState) where
  pub epiano_sample :
      {c m p soft ping fade body tine : Float} →
      c ≡ TAU ⊗ s.cph →
      m ≡ sin_of (TAU ⊗ s.mph) →
      p ≡ sin_of (TAU ⊗ s.tph) →
      soft ≡ decay_at srf c0·5 i →
      ping ≡ decay_at srf c0·035 i →
      fade ≡ decay_at srf decay i →
      body ≡ sin_of (body_turn gain c soft m) →
      tine ≡ sin_of (tine_turn gain c ping p) →
      epiano_mix body tine fade ≡ (epiano_at fi gain srf decay i s).sample
  unfolding epiano_mix epiano_at bent_of
  epiano_sample a b c d e f g h = rw (h, g, f, e, d, c, b, a)

  whole_state : epiano_next s (increment fi srf) ≡ (epiano_at fi gain srf decay i s).state
  unfolding epiano_next epiano_at
  whole_state = refl

  -- from what the calls gave, in the order of the code
  pub epiano_frame :
      {dt t m soft bodyBy body p ping tineBy tine fade y : Float} {s' : EpianoState} →
      dt ≡ increment fi srf →
      t ≡ seconds srf i →
      m ≡ sin_of (TAU ⊗ s.mph) →
      soft ≡ exp_of (neg t ⊘ c0·5) →
      bodyBy ≡ body_turn gain (TAU ⊗ s.cph) soft m →
      body ≡ sin_of bodyBy →
      p ≡ sin_of (TAU ⊗ s.tph) →
      ping ≡ exp_of (neg t ⊘ c0·035) →
      tineBy ≡ tine_turn gain (TAU ⊗ s.cph) ping p →
      tine ≡ sin_of tineBy →
      fade ≡ exp_of (neg t ⊘ decay) →
      y ≡ epiano_mix body tine fade →
      s' ≡ epiano_next s dt →
      ◌≡◌ {A = (Out EpianoState)} (record { sample = y; state = s' }) (epiano_at fi gain srf decay i s)
  epiano_frame {t = now} {y = y} {s' = s'} dt t m soft bodyBy body p ping tineBy tine fade mix next =
      let by : (d : Float) → exp_of (neg now ⊘ d) ≡ decay_at srf d i = λ d. ap (λ (u : Float). exp_of (neg u ⊘ d)) t in
      let sample : y ≡ (epiano_at fi gain srf decay i s).sample =
      mix ∙ epiano_sample refl m p (soft ∙ by c0·5) (ping ∙ by c0·035) (fade ∙ by decay) (body ∙ ap sin_of bodyBy) (tine ∙ ap sin_of tineBy) in
      let state : s' ≡ (epiano_at fi gain srf decay i s).state = next ∙ ap (epiano_next s) dt ∙ whole_state in
      λ j. record { sample = sample j; state = state j }
