-- A frame of frequency modulation from its tables is the definition's, and so is a block of frames. Assumes nothing.
use Prim.Native.Nat.{ℕ, ◌+◌, ◌-◌, ◌*◌, ◌≤◌, ◌<◌}
use mathlib.Core.Path.{◌≡◌, ap, ◌∙◌}
use mathlib.Core.List.{List}
use native.Mathlib.Omega.{arith}
use lib.Dec.{lit<}
use lib.ListN.{length, get_or}
use lib.Ieee.{Float, nan}
use Rattle.laws.specs.Run.{iterate}
use Rattle.trig.specs.Single.{sinf_of}
use Rattle.blocks.specs.Stored.{stored}
use Rattle.blocks.proofs.Block.{Tabled, tabled_at, tabled_frame}
use Rattle.blocks.proofs.Rows.{Rows}
use Rattle.blocks.proofs.Carried.{Carried, carried_block, carried_part}
use Rattle.ieee.specs.Binary32.{◌⊗◌}
use Rattle.dsl.specs.declared.knobs.FmKnobs.{FmKnobs}
use Rattle.dsp.specs.Kernels.{TAU, sin_of}
use Rattle.osc.specs.Phase.{increment}
use Rattle.frame_block.specs.Decay.{decay_at}
use Rattle.voice_waves.specs.Fm.{fm_index, fm_at}
use Rattle.voice_waves.specs.Block.{modulator_turn, modulator_turn_of, carrier_turn, carrier_turn_of, strike_of, fm_bent, fm_bent_at, fm_next, fm_reached}
use Rattle.voice_waves.specs.declared.modulated.FmState.{FmState}

-- a row of one value
single : {Y : Type 0} {of : ℕ → List Y} {d : Y} {n : ℕ} {l : List Y} → Rows 1 of d n l → (k : ℕ) → k < n → get_or l k d ≡ get_or (of k) 0 d
single {d = d} {l = l} r k h = ap (λ (j : ℕ). get_or l j d) (place k) ∙ r.at k 0 h (lit< tt)
  where
    place : (k : ℕ) → k ≡ k * 1 + 0
    place k = omega arith

carrier_at : (at : ℕ → FmState) (c : List Float) → Rows 1 (λ k. carrier_turn (at k)) nan 64 c → (k : ℕ) → k < 64 → get_or c k nan ≡ TAU ⊗ (at k).cph
unfolding carrier_turn
carrier_at at c r k h = single r k h

modulator_at : (at : ℕ → FmState) (x : List Float) → Rows 1 (λ k. modulator_turn (at k)) nan 64 x → (k : ℕ) → k < 64 → get_or x k nan ≡ TAU ⊗ (at k).mph
unfolding modulator_turn
modulator_at at x r k h = single r k h

fm_sample : (fi : Float) (knobs : FmKnobs) (gain srf : Float) (i : ℕ) (s : FmState) {y c e m : Float}
    → c ≡ TAU ⊗ s.cph → e ≡ decay_at srf (strike_of knobs) i → m ≡ sin_of (TAU ⊗ s.mph) → y ≡ sin_of (fm_bent knobs gain c e m) → y ≡ (fm_at fi knobs gain srf i s).sample
unfolding fm_at fm_index fm_bent
fm_sample fi knobs gain srf i s a b c d = d ∙ rw (a, b, c)

module _ (f : ℕ → Float) (knobs : FmKnobs) (gain srf : Float) (from : ℕ) (start : FmState) where
  abbrev next : ℕ → FmState → FmState
  next k s = fm_next knobs s (increment (f (from + k)) srf)

  pub fm_carried :
      {x c m e y s out₀ out : List Float} {r : FmState} →
      Rows 1 (λ k. modulator_turn (iterate next start k)) nan 64 x →
      Rows 1 (λ k. carrier_turn (iterate next start k)) nan 64 c →
      Tabled (λ j. sinf_of (get_or x j nan)) nan 0 64 m →
      Tabled (λ k. decay_at srf (strike_of knobs) (from + k)) nan 0 64 e →
      Tabled (λ k. fm_bent knobs gain (get_or c k nan) (get_or e k nan) (get_or m k nan)) nan 0 64 y →
      Tabled (λ j. sinf_of (get_or y j nan)) nan 0 64 s →
      from + 64 ≤ length out₀ →
      out ≡ stored (λ k. get_or s k nan) from 64 out₀ →
      r ≡ iterate next start 64 →
      Carried (λ i. fm_at (f i) knobs gain srf i) (λ o. o.sample) (λ o. o.state) from (from + 64) out₀ start out r
  unfolding fm_at fm_next
  fm_carried {x} {c} {m} {e} {y} {s} rows turns inner level bent outer room z g =
      carried_block (λ i. fm_at (f i) knobs gain srf i) (λ o. o.sample) (λ o. o.state) from start (λ k. get_or s k nan) 64 room right z g
    where
      right : (k : ℕ) → k < 64 → get_or s k nan ≡ (fm_at (f (from + k)) knobs gain srf (from + k) (iterate next start k)).sample
      right k h =
          fm_sample (f (from + k)) knobs gain srf (from + k) (iterate next start k)
          (carrier_at (iterate next start) c turns k h) (tabled_at level k h) (tabled_at inner k h ∙ ap sinf_of (modulator_at (iterate next start) x rows k h))
          (tabled_at outer k h ∙ ap sinf_of (tabled_at bent k h))

-- the frames from `from` on and before `end`
module _ (f : ℕ → Float) (knobs : FmKnobs) (gain srf : Float) (from end : ℕ) (start : FmState) where
  pub fm_carried_part :
      {x c m e y s out₀ out : List Float} {r : FmState} →
      Tabled (λ k. modulator_turn_of (fm_reached f knobs srf from start k)) nan 0 (end - from) x →
      Tabled (λ k. carrier_turn_of (fm_reached f knobs srf from start k)) nan 0 (end - from) c →
      Tabled (λ k. sinf_of (get_or x k nan)) nan 0 (end - from) m →
      Tabled (decay_at srf (strike_of knobs)) nan from end e →
      Tabled (fm_bent_at knobs gain c e m) nan 0 (end - from) y →
      Tabled (λ k. sinf_of (get_or y k nan)) nan 0 (end - from) s →
      from ≤ end →
      end ≤ length out₀ →
      out ≡ stored (λ k. get_or s k nan) from (end - from) out₀ →
      r ≡ fm_reached f knobs srf from start (end - from) →
      Carried (λ i. fm_at (f i) knobs gain srf i) (λ o. o.sample) (λ o. o.state) from end out₀ start out r
  unfolding fm_at fm_next
  fm_carried_part {c = c} {m = m} {e = e} {s = s} turns carrier inner level bent outer le room is g =
      carried_part (λ i. fm_at (f i) knobs gain srf i) (λ o. o.sample) (λ o. o.state) from start (λ k. get_or s k nan) end le room right is g
    where
      right : (k : ℕ) → k < end - from → get_or s k nan ≡ (fm_at (f (from + k)) knobs gain srf (from + k) (fm_reached f knobs srf from start k)).sample
      right k h =
          fm_sample (f (from + k)) knobs gain srf (from + k) (fm_reached f knobs srf from start k)
          (tabled_at carrier k h) (tabled_frame level k h) (tabled_at inner k h ∙ ap sinf_of (tabled_at turns k h))
          (unfold fm_bent_at in tabled_at outer k h ∙ ap sinf_of (tabled_at bent k h))
