-- A frame of the cowbell from its tangents and its level is the definition's, and so is a block of frames. Assumes nothing.
use Prim.Native.Nat.{ℕ, zero, suc, ◌+◌, ◌-◌, ◌*◌, ◌≤◌, ◌<◌}
use mathlib.Core.Path.{◌≡◌, refl, ap, ◌∙◌}
use mathlib.Core.List.{List}
use native.Mathlib.Omega.{arith}
use lib.Dec.{lit<}
use lib.ListN.{length, get_or}
use lib.Ieee.{Float, nan}
use Rattle.laws.specs.Run.{iterate}
use Rattle.trig.specs.Single.{sinf_of}
use Rattle.det.specs.Single.{tanhf_of}
use Rattle.blocks.specs.Stored.{stored}
use Rattle.blocks.proofs.Block.{Tabled, tabled_at, tabled_through, tabled_frame, tabled_from}
use Rattle.blocks.proofs.Rows.{Rows, rows_through, rows_first}
use Rattle.blocks.proofs.Carried.{Carried, carried_block, carried_part}
use Rattle.ieee.specs.Binary32.{◌⊗◌}
use Rattle.ieee.specs.Numbers.{c20}
use Rattle.ieee.specs.Order.{max_of}
use Rattle.dsp.specs.Kernels.{TAU, tanh_of}
use Rattle.osc.specs.Phase.{seconds}
use Rattle.dsl.specs.Pitch.{value_at, reading, pitch_at, reaches}
use Rattle.dsl.specs.declared.pitch.Pitch.TheVariants.{Const}
use Rattle.dsl.specs.declared.pitch.Reading.{Reading}
use Rattle.frame_block.specs.Decay.{decay_at}
use Rattle.voice_cowbell.specs.Cowbell.{c2·5, c1·565, c0·09, cowbell_of, cowbell_at}
use Rattle.voice_cowbell.specs.Block.{cowbell_turns, cowbell_mix, cowbell_mix_at}

pub two : (fi srf : Float) (i : ℕ) → length (cowbell_turns fi srf i) ≡ 2
unfolding cowbell_turns
two fi srf i = refl

-- what a sine's argument becomes
abbrev saturated : Float → Float
saturated v = tanh_of (c2·5 ⊗ sinf_of v)

module _ (fi srf : Float) (i : ℕ) (s e : List Float) (k : ℕ) where
  cowbell_sample :
      get_or s (k * 2) nan ≡ saturated (TAU ⊗ max_of fi c20 ⊗ seconds srf i) →
      get_or s (k * 2 + 1) nan ≡ saturated (TAU ⊗ max_of fi c20 ⊗ c1·565 ⊗ seconds srf i) →
      get_or e k nan ≡ decay_at srf c0·09 i →
      cowbell_mix_at s e k ≡ cowbell_at fi srf i
  unfolding cowbell_mix_at cowbell_at cowbell_of
  cowbell_sample a b d = rw (a, b, d)

-- the frames from `from` on and before `end`: x holds the arguments, s the sines, y what the tangents are taken of, t the tangents, e the levels
module _ (f : ℕ → Float) (srf : Float) (from end : ℕ) where
  pub cowbell_tabled :
      {x s y t e z : List Float} →
      Rows 2 (λ k. cowbell_turns (f (from + k)) srf (from + k)) nan (end - from) x →
      Tabled (λ j. sinf_of (get_or x j nan)) nan 0 ((end - from) * 2) s →
      Tabled (λ j. c2·5 ⊗ get_or s j nan) nan 0 ((end - from) * 2) y →
      Tabled (λ j. tanhf_of (get_or y j nan)) nan 0 ((end - from) * 2) t →
      Tabled (decay_at srf c0·09) nan from end e →
      Tabled (cowbell_mix_at t e) nan 0 (end - from) z →
      Tabled (λ i. cowbell_at (f i) srf i) nan from end z
  cowbell_tabled {x} {s} {y} {t} {e} rows sines drive tangents levels mixed =
      tabled_from (λ i. cowbell_at (f i) srf i) from end mixed (omega arith) (λ k h l. right (k - from) (omega arith) ∙ ap (λ (i : ℕ). cowbell_at (f i) srf i) (back k h))
    where
      through : Tabled (λ j. saturated (get_or x j nan)) nan 0 ((end - from) * 2) t
      through = tabled_through tanh_of (tabled_through (λ v. c2·5 ⊗ v) sines drive) tangents

      right : (k : ℕ) → k < end - from → cowbell_mix_at t e k ≡ cowbell_at (f (from + k)) srf (from + k)
      right k h =
          cowbell_sample (f (from + k)) srf (from + k) t e k
          (unfold cowbell_turns in rows_first saturated rows through k h (lit< tt))
          (unfold cowbell_turns in rows_through saturated rows through k 1 h (lit< tt))
          (tabled_frame levels k h)

      back : (k : ℕ) → from ≤ k → from + (k - from) ≡ k
      back k h = omega arith

-- there is no state
still : (n : ℕ) → 0 ≡ iterate (λ k (s : ℕ). 0) 0 n
unfolding iterate
still zero = refl
still (suc n) = refl

-- the samples that lie in z already
pub cowbell_stored :
    (f : ℕ → Float) (srf : Float) (from end : ℕ) {z out₀ out : List Float} →
    Tabled (λ i. cowbell_at (f i) srf i) nan from end z →
    from ≤ end →
    end ≤ length out₀ →
    out ≡ stored (λ k. get_or z k nan) from (end - from) out₀ →
    Carried (λ i (s : ℕ). cowbell_at (f i) srf i) (λ r. r) (λ r. 0) from end out₀ 0 out 0
cowbell_stored f srf from end {z} t le room e =
    carried_part (λ i (s : ℕ). cowbell_at (f i) srf i) (λ r. r) (λ r. 0) from 0 (λ k. get_or z k nan) end le room (tabled_frame t) e (still (end - from))

-- ---- a block of 64 frames: x holds the arguments, s the sines, y what the tangents are taken of, z the tangents
module _ (f : ℕ → Float) (srf : Float) (from : ℕ) where
  pub cowbell_carried :
      {x s y z e out₀ out : List Float} →
      Rows 2 (λ k. cowbell_turns (f (from + k)) srf (from + k)) nan 64 x →
      Tabled (λ j. sinf_of (get_or x j nan)) nan 0 128 s →
      Tabled (λ j. c2·5 ⊗ get_or s j nan) nan 0 128 y →
      Tabled (λ j. tanhf_of (get_or y j nan)) nan 0 128 z →
      Tabled (λ k. decay_at srf c0·09 (from + k)) nan 0 64 e →
      from + 64 ≤ length out₀ →
      out ≡ stored (λ k. cowbell_mix (get_or z (k * 2) nan) (get_or z (k * 2 + 1) nan) (get_or e k nan)) from 64 out₀ →
      Carried (λ i (s : ℕ). cowbell_at (f i) srf i) (λ r. r) (λ r. 0) from (from + 64) out₀ 0 out 0
  cowbell_carried {x} {s} {y} {z} {e} rows sines drive tangents levels room is =
      carried_block (λ i (s : ℕ). cowbell_at (f i) srf i) (λ r. r) (λ r. 0) from 0 (λ k. cowbell_mix (get_or z (k * 2) nan) (get_or z (k * 2 + 1) nan) (get_or e k nan)) 64 room right is
      (still 64)
    where
      through : Tabled (λ j. saturated (get_or x j nan)) nan 0 128 z
      through = tabled_through tanh_of (tabled_through (λ v. c2·5 ⊗ v) sines drive) tangents

      right : (k : ℕ) → k < 64 → cowbell_mix (get_or z (k * 2) nan) (get_or z (k * 2 + 1) nan) (get_or e k nan) ≡ cowbell_at (f (from + k)) srf (from + k)
      right k h =
          unfold cowbell_mix_at in
          cowbell_sample (f (from + k)) srf (from + k) z e k
          (unfold cowbell_turns in rows_first saturated rows through k h (lit< tt))
          (unfold cowbell_turns in rows_through saturated rows through k 1 h (lit< tt))
          (tabled_at levels k h)

-- ---- a constant pitch
pub constant_reaches : (f : Float) (l n : ℕ) {r : Reading} → r ≡ reading (Const f) 1 → n ≤ 16777216 → reaches r l n
constant_reaches f l n e few = rw e (record { is = refl; least = omega arith; most = omega arith; few = few; within = refl })

pub constant_at : (f : Float) (lane : List Float) (i : ℕ) {r : Reading} → r ≡ reading (Const f) 1 → pitch_at r lane i ≡ f
unfolding pitch_at value_at
constant_at f lane i e = rw e refl
