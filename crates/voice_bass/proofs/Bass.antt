-- A frame of the bass from what its calls gave, in the order of the code; and a frame by opening and fade is the definition's. Assumes nothing.
use Prim.Native.Nat.{ℕ, ◌-◌, ◌≤◌, ◌<◌}
use mathlib.Core.Path.{◌≡◌, refl, ◌∙◌}
use mathlib.Core.List.{List}
use lib.ListN.{get_or}
use lib.Ieee.{Float, nan}
use Rattle.blocks.proofs.Block.{Tabled}
use Rattle.laws.specs.Run.{samples}
use Rattle.ieee.specs.Numbers.{c0·001}
use Rattle.ieee.specs.Binary32.{◌⊕◌, ◌⊖◌, ◌⊗◌}
use Rattle.ieee.specs.Order.{max_of}
use Rattle.dsp.specs.Kernels.{TAU, sin_of}
use Rattle.osc.specs.Osc.{saw_of}
use Rattle.osc.specs.Phase.{wrapped, increment}
use Rattle.dsl.specs.declared.knobs.BassKnobs.{BassKnobs}
use Rattle.frame_block.specs.Decay.{decay_at}
use Rattle.bass_opening.specs.Cutoff.{bass_opening_at}
use Rattle.voice_bass.specs.Bass.{cutoff_at, drive_of, bass_at, bass_start, bass_frames}
use Rattle.voice_bass.specs.Block.{BassRead, bass_by}
use Rattle.voice_bass.specs.declared.BassState.{BassState}
use Rattle.osc.specs.declared.Out.{Out}

module _ (a e fi : Float) (bass : BassKnobs) (srf : Float) where
  pub bass_frame :
      (s : BassState) {dt saw body sine phase sub : Float} →
      dt ≡ increment fi srf →
      saw ≡ saw_of s.phase dt →
      let lp = s.lp ⊕ a ⊗ (saw ⊖ s.lp) in
      body ≡ drive_of bass.bass_drive lp →
      sine ≡ sin_of (TAU ⊗ s.sub) →
      phase ≡ wrapped (s.phase ⊕ dt) →
      sub ≡ wrapped (s.sub ⊕ dt ⊗ bass.bass_sub_ratio) →
      ◌≡◌ {A = (Out BassState)} (record { sample = (bass.bass_body ⊗ body ⊕ bass.bass_sub ⊗ sine) ⊗ e; state = record { phase = phase; sub = sub; lp = lp } })
      (bass_by (record { opening = a; fade = e }) fi bass srf s)
  unfolding bass_by
  bass_frame s b c d g h j = rw (j, h, g, d, c, b)

module _ (bass : BassKnobs) (gain srf : Float) where
  -- what a frame reads: how far its filter opens, and how far its level has faded
  abbrev pub read_at : ℕ → BassRead
  read_at i = record { opening = bass_opening_at bass gain srf i; fade = decay_at srf (max_of bass.bass_body_decay c0·001) i }

  -- the tables of a block hold what its frames read; `fade` is what the fades were worked out by
  pub read_is : {fade : ℕ → Float} {from end : ℕ} {a e : List Float} → Tabled (bass_opening_at bass gain srf) nan from end a → Tabled fade nan from end e
      → fade ≡ decay_at srf (max_of bass.bass_body_decay c0·001) → (k : ℕ) → from ≤ k → k < end
      → ◌≡◌ {A = BassRead} (record { opening = get_or a (k - from) nan; fade = get_or e (k - from) nan }) (read_at k)
  read_is opened faded is k h l = λ j. record { opening = opened.at k h l j; fade = (faded.at k h l ∙ (λ i. is i k)) j }

  pub bass_is : (fi : Float) (i : ℕ) (s : BassState) → bass_by (read_at i) fi bass srf s ≡ bass_at fi bass gain srf i s
  unfolding bass_by bass_opening_at bass_at cutoff_at
  bass_is fi i s = refl

  -- the samples by what is read are the definition's
  pub by_readings : (f : ℕ → Float) (n : ℕ)
      → samples (λ i. bass_by (read_at i) (f i) bass srf) (λ r. r.sample) (λ r. r.state) bass_start n ≡ bass_frames f bass gain srf n
  unfolding bass_frames
  by_readings f n = λ j. samples (λ i s. bass_is (f i) i s j) (λ r. r.sample) (λ r. r.state) bass_start n
