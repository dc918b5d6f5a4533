-- A frame of the bell from its sines and levels is the definition's, and so is a block of frames. Assumes nothing.
use Prim.Native.Nat.{ℕ, ◌+◌, ◌-◌, ◌*◌, ◌≤◌, ◌<◌}
use mathlib.Core.Path.{◌≡◌, refl}
use mathlib.Core.List.{List}
use lib.Dec.{lit<}
use lib.ListN.{length, get_or}
use lib.Ieee.{Float, nan, of_bits, lt}
use Rattle.laws.specs.Run.{iterate}
use Rattle.trig.specs.Single.{sinf_of}
use Rattle.blocks.specs.Stored.{stored}
use Rattle.blocks.proofs.Block.{Tabled, tabled_at, tabled_frame}
use Rattle.blocks.proofs.Rows.{Rows, rows_through, rows_first}
use Rattle.blocks.proofs.Carried.{Carried, carried_block, carried_part}
use Rattle.ieee.specs.Numbers.{c0·001, c0·25, c0·4, c0·8, c3}
use Rattle.ieee.specs.Binary32.{◌⊗◌}
use Rattle.ieee.specs.Order.{max_of}
use Rattle.dsp.specs.Kernels.{TAU, sin_of}
use Rattle.osc.specs.Phase.{increment}
use Rattle.frame_block.specs.Decay.{decay_at}
use Rattle.voice_bell.specs.Bell.{c1·5, bell_partial, bell_sum, bell_next, bell_at}
use Rattle.voice_bell.specs.Block.{bell_reached, bell_turns, bell_mix, bell_mix_at}
use Rattle.voice_bell.specs.declared.BellState.{BellState}

-- no decay is below a millisecond
max_0 : max_of c3 c0·001 ≡ c3
unfolding lt of_bits
max_0 = refl

max_1 : max_of c1·5 c0·001 ≡ c1·5
unfolding lt of_bits
max_1 = refl

max_2 : max_of c0·8 c0·001 ≡ c0·8
unfolding lt of_bits
max_2 = refl

max_3 : max_of c0·4 c0·001 ≡ c0·4
unfolding lt of_bits
max_3 = refl

max_4 : max_of c0·25 c0·001 ≡ c0·25
unfolding lt of_bits
max_4 = refl

pub bell_sample :
    (fi srf : Float) (i : ℕ) (s : BellState) {s0 s1 s2 s3 s4 s5 e0 e1 e2 e3 e4 : Float} →
    s0 ≡ sin_of (TAU ⊗ s.ph0) →
    s1 ≡ sin_of (TAU ⊗ s.ph1) →
    s2 ≡ sin_of (TAU ⊗ s.ph2) →
    s3 ≡ sin_of (TAU ⊗ s.ph3) →
    s4 ≡ sin_of (TAU ⊗ s.ph4) →
    s5 ≡ sin_of (TAU ⊗ s.twin) →
    e0 ≡ decay_at srf c3 i →
    e1 ≡ decay_at srf c1·5 i →
    e2 ≡ decay_at srf c0·8 i →
    e3 ≡ decay_at srf c0·4 i →
    e4 ≡ decay_at srf c0·25 i →
    bell_mix s0 s1 s2 s3 s4 s5 e0 e1 e2 e3 e4 ≡ (bell_at fi srf i s).sample
unfolding bell_mix bell_at bell_sum bell_partial
bell_sample fi srf i s a b c d e f g h j k l = rw (a, b, c, d, e, f, g, h, j, k, l, max_0, max_1, max_2, max_3, max_4)

-- ---- a block of 64 frames
module _ (f : ℕ → Float) (srf : Float) (from : ℕ) (start : BellState) where
  abbrev pub next : ℕ → BellState → BellState
  next k s = bell_next s (increment (f (from + k)) srf)

  pub bell_carried :
      {x s e0 e1 e2 e3 e4 out₀ out : List Float} {r : BellState} →
      Rows 6 (λ k. bell_turns (iterate next start k)) nan 64 x →
      Tabled (λ j. sinf_of (get_or x j nan)) nan 0 384 s →
      Tabled (λ k. decay_at srf c3 (from + k)) nan 0 64 e0 →
      Tabled (λ k. decay_at srf c1·5 (from + k)) nan 0 64 e1 →
      Tabled (λ k. decay_at srf c0·8 (from + k)) nan 0 64 e2 →
      Tabled (λ k. decay_at srf c0·4 (from + k)) nan 0 64 e3 →
      Tabled (λ k. decay_at srf c0·25 (from + k)) nan 0 64 e4 →
      from + 64 ≤ length out₀ →
      out ≡ stored (λ k. bell_mix (get_or s (k * 6) nan) (get_or s (k * 6 + 1) nan) (get_or s (k * 6 + 2) nan) (get_or s (k * 6 + 3) nan) (get_or s (k * 6 + 4) nan) (get_or s (k * 6 + 5) nan)
      (get_or e0 k nan) (get_or e1 k nan) (get_or e2 k nan) (get_or e3 k nan) (get_or e4 k nan)) from 64 out₀ →
      r ≡ iterate next start 64 →
      Carried (λ i. bell_at (f i) srf i) (λ o. o.sample) (λ o. o.state) from (from + 64) out₀ start out r
  unfolding bell_at
  bell_carried {x} {s} {e0} {e1} {e2} {e3} {e4} rows sines d0 d1 d2 d3 d4 room e g =
      carried_block (λ i. bell_at (f i) srf i) (λ o. o.sample) (λ o. o.state) from start
      (λ k. bell_mix (get_or s (k * 6) nan) (get_or s (k * 6 + 1) nan) (get_or s (k * 6 + 2) nan) (get_or s (k * 6 + 3) nan) (get_or s (k * 6 + 4) nan) (get_or s (k * 6 + 5) nan)
      (get_or e0 k nan) (get_or e1 k nan) (get_or e2 k nan) (get_or e3 k nan) (get_or e4 k nan)) 64 room right e g
    where
      sine : (k j : ℕ) → k < 64 → j < 6 → get_or s (k * 6 + j) nan ≡ sinf_of (get_or (bell_turns (iterate next start k)) j nan)
      sine k j h l = rows_through sinf_of rows sines k j h l

      right : (k : ℕ) → k < 64 → bell_mix (get_or s (k * 6) nan) (get_or s (k * 6 + 1) nan) (get_or s (k * 6 + 2) nan) (get_or s (k * 6 + 3) nan) (get_or s (k * 6 + 4) nan) (get_or s (k * 6 + 5) nan)
          (get_or e0 k nan) (get_or e1 k nan) (get_or e2 k nan) (get_or e3 k nan) (get_or e4 k nan) ≡ (bell_at (f (from + k)) srf (from + k) (iterate next start k)).sample
      right k h =
          bell_sample (f (from + k)) srf (from + k) (iterate next start k)
          (unfold bell_turns in rows_first sinf_of rows sines k h (lit< tt))
          (unfold bell_turns in sine k 1 h (lit< tt))
          (unfold bell_turns in sine k 2 h (lit< tt))
          (unfold bell_turns in sine k 3 h (lit< tt))
          (unfold bell_turns in sine k 4 h (lit< tt))
          (unfold bell_turns in sine k 5 h (lit< tt))
          (tabled_at d0 k h) (tabled_at d1 k h) (tabled_at d2 k h) (tabled_at d3 k h) (tabled_at d4 k h)

-- the frames from `from` on and before `end`
module _ (f : ℕ → Float) (srf : Float) (from end : ℕ) (start : BellState) where
  pub bell_carried_part :
      {x s e0 e1 e2 e3 e4 out₀ out : List Float} {r : BellState} →
      Rows 6 (λ k. bell_turns (bell_reached f srf from start k)) nan (end - from) x →
      Tabled (λ j. sinf_of (get_or x j nan)) nan 0 ((end - from) * 6) s →
      Tabled (decay_at srf c3) nan from end e0 →
      Tabled (decay_at srf c1·5) nan from end e1 →
      Tabled (decay_at srf c0·8) nan from end e2 →
      Tabled (decay_at srf c0·4) nan from end e3 →
      Tabled (decay_at srf c0·25) nan from end e4 →
      from ≤ end →
      end ≤ length out₀ →
      out ≡ stored (bell_mix_at s e0 e1 e2 e3 e4) from (end - from) out₀ →
      r ≡ bell_reached f srf from start (end - from) →
      Carried (λ i. bell_at (f i) srf i) (λ o. o.sample) (λ o. o.state) from end out₀ start out r
  unfolding bell_at
  bell_carried_part {s = s} {e0 = e0} {e1 = e1} {e2 = e2} {e3 = e3} {e4 = e4} rows sines d0 d1 d2 d3 d4 le room e g =
      carried_part (λ i. bell_at (f i) srf i) (λ o. o.sample) (λ o. o.state) from start (bell_mix_at s e0 e1 e2 e3 e4) end le room right e g
    where
      sine : (k j : ℕ) → k < end - from → j < 6 → get_or s (k * 6 + j) nan ≡ sinf_of (get_or (bell_turns (bell_reached f srf from start k)) j nan)
      sine k j h l = rows_through sinf_of rows sines k j h l

      right : (k : ℕ) → k < end - from → bell_mix_at s e0 e1 e2 e3 e4 k ≡ (bell_at (f (from + k)) srf (from + k) (bell_reached f srf from start k)).sample
      right k h =
          unfold bell_mix_at in
          bell_sample (f (from + k)) srf (from + k) (bell_reached f srf from start k)
          (unfold bell_turns in rows_first sinf_of rows sines k h (lit< tt))
          (unfold bell_turns in sine k 1 h (lit< tt))
          (unfold bell_turns in sine k 2 h (lit< tt))
          (unfold bell_turns in sine k 3 h (lit< tt))
          (unfold bell_turns in sine k 4 h (lit< tt))
          (unfold bell_turns in sine k 5 h (lit< tt))
          (tabled_frame d0 k h) (tabled_frame d1 k h) (tabled_frame d2 k h) (tabled_frame d3 k h) (tabled_frame d4 k h)
