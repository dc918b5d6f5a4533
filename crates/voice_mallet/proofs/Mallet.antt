-- A frame of the mallet from its sines and levels is the definition's, and so is a block of frames. Assumes nothing.
use Prim.Native.Nat.{ℕ, ◌+◌, ◌-◌, ◌*◌, ◌≤◌, ◌<◌}
use mathlib.Core.Path.{◌≡◌}
use mathlib.Core.List.{List}
use lib.Dec.{lit<}
use lib.ListN.{length, get_or}
use lib.Ieee.{Float, nan}
use Rattle.laws.specs.Run.{iterate}
use Rattle.trig.specs.Single.{sinf_of}
use Rattle.blocks.specs.Stored.{stored}
use Rattle.blocks.proofs.Block.{Tabled, tabled_at, tabled_frame}
use Rattle.blocks.proofs.Rows.{Rows, rows_through, rows_first}
use Rattle.blocks.proofs.Carried.{Carried, carried_block, carried_part}
use Rattle.ieee.specs.Numbers.{c0·01, c0·03}
use Rattle.ieee.specs.Binary32.{◌⊗◌}
use Rattle.dsp.specs.Kernels.{TAU, sin_of}
use Rattle.osc.specs.Phase.{increment}
use Rattle.frame_block.specs.Decay.{decay_at}
use Rattle.voice_mallet.specs.Mallet.{mallet_at}
use Rattle.voice_mallet.specs.Block.{mallet_next, mallet_reached, mallet_turns, mallet_mix, mallet_mix_at}
use Rattle.voice_mallet.specs.declared.MalletState.{MalletState}
use Rattle.osc.specs.declared.Out.{Out}

pub mallet_sample :
    (fi gain srf : Float) (i : ℕ) (s : MalletState) {s0 s1 s2 e1 e2 : Float} →
    s0 ≡ sin_of (TAU ⊗ s.ph0) →
    s1 ≡ sin_of (TAU ⊗ s.ph1) →
    s2 ≡ sin_of (TAU ⊗ s.ph2) →
    e1 ≡ decay_at srf c0·03 i →
    e2 ≡ decay_at srf c0·01 i →
    mallet_mix gain s0 s1 s2 e1 e2 ≡ (mallet_at fi gain srf i s).sample
unfolding mallet_mix mallet_at
mallet_sample fi gain srf i s a b c d e = rw (a, b, c, d, e)

pub mallet_frame :
    (fi gain srf : Float) (i : ℕ) (s : MalletState) {y : Float} {t : MalletState} → y ≡ (mallet_at fi gain srf i s).sample → t ≡ mallet_next s (increment fi srf)
    → ◌≡◌ {A = (Out MalletState)} (record { sample = y; state = t }) (mallet_at fi gain srf i s)
unfolding mallet_at mallet_next
mallet_frame fi gain srf i s a b = rw (a, b)

-- ---- a block of 64 frames
module _ (f : ℕ → Float) (gain srf : Float) (from : ℕ) (start : MalletState) where
  abbrev next : ℕ → MalletState → MalletState
  next k s = mallet_next s (increment (f (from + k)) srf)

  pub mallet_carried :
      {x s e1 e2 out₀ out : List Float} {r : MalletState} →
      Rows 3 (λ k. mallet_turns (iterate next start k)) nan 64 x →
      Tabled (λ j. sinf_of (get_or x j nan)) nan 0 192 s →
      Tabled (λ k. decay_at srf c0·03 (from + k)) nan 0 64 e1 →
      Tabled (λ k. decay_at srf c0·01 (from + k)) nan 0 64 e2 →
      from + 64 ≤ length out₀ →
      out ≡ stored (λ k. mallet_mix gain (get_or s (k * 3) nan) (get_or s (k * 3 + 1) nan) (get_or s (k * 3 + 2) nan) (get_or e1 k nan) (get_or e2 k nan)) from 64 out₀ →
      r ≡ iterate next start 64 →
      Carried (λ i. mallet_at (f i) gain srf i) (λ o. o.sample) (λ o. o.state) from (from + 64) out₀ start out r
  unfolding mallet_at mallet_next
  mallet_carried {x} {s} {e1} {e2} rows sines d1 d2 room e g =
      carried_block (λ i. mallet_at (f i) gain srf i) (λ o. o.sample) (λ o. o.state) from start
      (λ k. mallet_mix gain (get_or s (k * 3) nan) (get_or s (k * 3 + 1) nan) (get_or s (k * 3 + 2) nan) (get_or e1 k nan) (get_or e2 k nan)) 64 room right e g
    where
      right : (k : ℕ) → k < 64 → mallet_mix gain (get_or s (k * 3) nan) (get_or s (k * 3 + 1) nan) (get_or s (k * 3 + 2) nan) (get_or e1 k nan) (get_or e2 k nan)
          ≡ (mallet_at (f (from + k)) gain srf (from + k) (iterate next start k)).sample
      right k h =
          mallet_sample (f (from + k)) gain srf (from + k) (iterate next start k)
          (unfold mallet_turns in rows_first sinf_of rows sines k h (lit< tt))
          (unfold mallet_turns in rows_through sinf_of rows sines k 1 h (lit< tt))
          (unfold mallet_turns in rows_through sinf_of rows sines k 2 h (lit< tt))
          (tabled_at d1 k h) (tabled_at d2 k h)

-- the frames from `from` on and before `end`
module _ (f : ℕ → Float) (gain srf : Float) (from end : ℕ) (start : MalletState) where
  pub mallet_carried_part :
      {x s e1 e2 out₀ out : List Float} {r : MalletState} →
      Rows 3 (λ k. mallet_turns (mallet_reached f srf from start k)) nan (end - from) x →
      Tabled (λ j. sinf_of (get_or x j nan)) nan 0 ((end - from) * 3) s →
      Tabled (decay_at srf c0·03) nan from end e1 →
      Tabled (decay_at srf c0·01) nan from end e2 →
      from ≤ end →
      end ≤ length out₀ →
      out ≡ stored (mallet_mix_at gain s e1 e2) from (end - from) out₀ →
      r ≡ mallet_reached f srf from start (end - from) →
      Carried (λ i. mallet_at (f i) gain srf i) (λ o. o.sample) (λ o. o.state) from end out₀ start out r
  unfolding mallet_at mallet_next
  mallet_carried_part {s = s} {e1 = e1} {e2 = e2} rows sines d1 d2 le room e g =
      carried_part (λ i. mallet_at (f i) gain srf i) (λ o. o.sample) (λ o. o.state) from start (mallet_mix_at gain s e1 e2) end le room right e g
    where
      right : (k : ℕ) → k < end - from → mallet_mix_at gain s e1 e2 k ≡ (mallet_at (f (from + k)) gain srf (from + k) (mallet_reached f srf from start k)).sample
      right k h =
          unfold mallet_mix_at in
          mallet_sample (f (from + k)) gain srf (from + k) (mallet_reached f srf from start k)
          (unfold mallet_turns in rows_first sinf_of rows sines k h (lit< tt))
          (unfold mallet_turns in rows_through sinf_of rows sines k 1 h (lit< tt))
          (unfold mallet_turns in rows_through sinf_of rows sines k 2 h (lit< tt))
          (tabled_frame d1 k h) (tabled_frame d2 k h)
