-- The state after a frame of the flute from what its calls gave, in the order of the code; a block from the tables is the definition's; and the generator after n frames, which draw
-- once each. Assumes nothing.
use Prim.Native.Nat.{ℕ, ◌+◌, ◌-◌, ◌^◌, ◌≤◌, ◌<◌}
use mathlib.Core.Path.{◌≡◌, refl, ap, ◌∙◌}
use mathlib.Core.List.{List}
use native.Mathlib.Omega.{arith}
use native.Mathlib.Numerals.{add-one}
use lib.ListN.{length, get_or, set, length-set}
use lib.Ieee.{Float, nan}
use Rattle.laws.specs.Run.{state_at, iterate}
use Rattle.laws.proofs.Iterate.{part_iterated}
use Rattle.trig.specs.Single.{sinf_of}
use Rattle.blocks.specs.Stored.{stored}
use Rattle.blocks.proofs.Block.{Tabled, tabled_none, tabled_next, tabled_all, tabled_at}
use Rattle.blocks.proofs.Carried.{Carried, carried_block, carried_part}
use Rattle.ieee.specs.Numbers.{c0, c0·006, c0·15, c1}
use Rattle.ieee.specs.Binary32.{◌⊕◌, ◌⊖◌, ◌⊗◌, ◌⊘◌}
use Rattle.ieee.specs.Order.{max_of}
use Rattle.dsp.specs.Kernels.{TAU, sin_of}
use Rattle.rng.specs.SplitMix64.{advance, state_after}
use Rattle.rng.specs.Draw.{bi_from}
use Rattle.rng.proofs.States.{draws_leave}
use Rattle.osc.specs.Phase.{wrapped}
use Rattle.frame_block.specs.Decay.{decay_at}
use Rattle.voice_flute.specs.Flute.{c5·5, rng_at, flute_at}
use Rattle.voice_flute.specs.Block.{flute_next, flute_mix, flute_mix_at, flute_reached}
use Rattle.voice_flute.proofs.Frame.{after, flute_sample}
use Rattle.voice_flute.specs.declared.FluteState.{FluteState}

pub flute_step :
    (e fi srf lpA : Float) (s : FluteState) {swing vib f phase breath : Float} {next : ℕ} →
    swing ≡ sin_of (TAU ⊗ s.vib) →
    vib ≡ wrapped (s.vib ⊕ c5·5 ⊘ srf) →
    f ≡ max_of fi c0 →
    phase ≡ wrapped (s.phase ⊕ f ⊗ (c1 ⊕ c0·006 ⊗ (c1 ⊖ e) ⊗ swing) ⊘ srf) →
    breath ≡ bi_from s.rng.0 →
    next ≡ advance s.rng.0 →
    ◌≡◌ {A = FluteState} (record { phase = phase; vib = vib; lp = s.lp ⊕ lpA ⊗ (breath ⊖ s.lp); rng = rng_at next }) (flute_next e fi srf lpA s)
unfolding flute_next
flute_step e fi srf lpA s a b c d g h = rw (h, g, d, c, b, a)

-- ---- a block
-- The loop that advances a state and keeps two values of it after each frame: k of n frames are done. `next j` is what frame j makes of the state.
pub record PairTabled {S Y : Type 0} (next : ℕ → S → S) (start : S) (f g : S → Y) (d : Y) (m l n k : ℕ) (x y : List Y) (s : S) : Type 0 where
  pub within : k ≤ n
  pub long : length x ≡ m
  pub short : length y ≡ l
  pub first : Tabled (λ j. f (iterate next start (j + 1))) d 0 k x
  pub second : Tabled (λ j. g (iterate next start (j + 1))) d 0 k y
  pub is : s ≡ iterate next start k

module _ {S Y : Type 0} {next : ℕ → S → S} {start : S} {f g : S → Y} {d : Y} {m l n : ℕ} where
  pub pair_none : {x y : List Y} → length x ≡ m → length y ≡ l → PairTabled next start f g d m l n 0 x y start
  unfolding iterate
  pair_none a b = record { within = omega arith; long = a; short = b; first = tabled_none; second = tabled_none; is = refl }

  pub pair_more :
      {k : ℕ} {x y : List Y} {s s' : S} →
      PairTabled next start f g d m l n k x y s →
      k < n →
      n ≤ m →
      n ≤ l →
      s' ≡ next k s →
      PairTabled next start f g d m l n (k + 1) (set x k (f s')) (set y k (g s')) s'
  unfolding iterate
  pair_more {k} {x} {y} {s} {s'} h lt a b e = record {
    within = omega arith;
    long = rw length-set h.long;
    short = rw length-set h.short;
    first = tabled_next h.first (under (length x) m h.long a) (ap f moved);
    second = tabled_next h.second (under (length y) l h.short b) (ap g moved);
    is = moved;
  }
    where
      under : (p q : ℕ) → p ≡ q → n ≤ q → k < p
      under p q z h = omega arith

      moved : s' ≡ iterate next start (k + 1)
      moved = rw add-one (e ∙ ap (next k) h.is)

  pub pair_first : {k : ℕ} {x y : List Y} {s : S} → PairTabled next start f g d m l n k x y s → n ≤ k → Tabled (λ j. f (iterate next start (j + 1))) d 0 n x
  pair_first h le = tabled_all h.first (omega (arith, h.within))

  pub pair_second : {k : ℕ} {x y : List Y} {s : S} → PairTabled next start f g d m l n k x y s → n ≤ k → Tabled (λ j. g (iterate next start (j + 1))) d 0 n y
  pair_second h le = tabled_all h.second (omega (arith, h.within))

  pub pair_state : {k : ℕ} {x y : List Y} {s : S} → PairTabled next start f g d m l n k x y s → n ≤ k → s ≡ iterate next start n
  pair_state {k} h le = let e : k ≡ n = omega (arith, h.within) in h.is ∙ ap (iterate next start) e

-- a block of 64 frames
module _ (f : ℕ → Float) (gain srf lpA : Float) (from : ℕ) (start : FluteState) where
  abbrev at : ℕ → FluteState
  at = flute_reached f srf lpA from start

  at_next : (k : ℕ) → at (k + 1) ≡ after (f (from + k)) gain srf lpA (from + k) (at k)
  unfolding iterate
  at_next k = rw add-one refl

  pub flute_carried :
      {x s b out₀ out : List Float} {r : FluteState} →
      Tabled (λ k. TAU ⊗ (at (k + 1)).phase) nan 0 64 x →
      Tabled (λ k. (at (k + 1)).lp) nan 0 64 b →
      Tabled (λ j. sinf_of (get_or x j nan)) nan 0 64 s →
      from + 64 ≤ length out₀ →
      out ≡ stored (λ k. flute_mix (get_or s k nan) gain (get_or b k nan)) from 64 out₀ →
      r ≡ at 64 →
      Carried (λ i. flute_at (f i) gain srf lpA i) (λ o. o.sample) (λ o. o.state) from (from + 64) out₀ start out r
  unfolding flute_at flute_next
  flute_carried {x} {s} {b} turns breath sines room e g =
      carried_block (λ i. flute_at (f i) gain srf lpA i) (λ o. o.sample) (λ o. o.state) from start (λ k. flute_mix (get_or s k nan) gain (get_or b k nan)) 64 room right e g
    where
      right : (k : ℕ) → k < 64 → flute_mix (get_or s k nan) gain (get_or b k nan) ≡ (flute_at (f (from + k)) gain srf lpA (from + k) (at k)).sample
      right k h =
          flute_sample (f (from + k)) gain srf lpA (from + k) (at k) (at_next k) (tabled_at sines k h ∙ ap sinf_of (tabled_at turns k h)) (tabled_at breath k h)

-- the frames from `from` on and before `end`
module _ (f : ℕ → Float) (gain srf lpA : Float) (from end : ℕ) (start : FluteState) where
  pub flute_carried_part :
      {x s b out₀ out : List Float} {r : FluteState} →
      Tabled (λ k. TAU ⊗ (flute_reached f srf lpA from start (k + 1)).phase) nan 0 (end - from) x →
      Tabled (λ k. (flute_reached f srf lpA from start (k + 1)).lp) nan 0 (end - from) b →
      Tabled (λ j. sinf_of (get_or x j nan)) nan 0 (end - from) s →
      from ≤ end →
      end ≤ length out₀ →
      out ≡ stored (flute_mix_at s b gain) from (end - from) out₀ →
      r ≡ flute_reached f srf lpA from start (end - from) →
      Carried (λ i. flute_at (f i) gain srf lpA i) (λ o. o.sample) (λ o. o.state) from end out₀ start out r
  unfolding flute_at flute_next
  flute_carried_part {s = s} {b = b} turns breath sines le room e g =
      carried_part (λ i. flute_at (f i) gain srf lpA i) (λ o. o.sample) (λ o. o.state) from start (flute_mix_at s b gain) end le room right e g
    where
      right : (k : ℕ) → k < end - from → flute_mix_at s b gain k ≡ (flute_at (f (from + k)) gain srf lpA (from + k) (flute_reached f srf lpA from start k)).sample
      right k h =
          unfold flute_mix_at in
          flute_sample (f (from + k)) gain srf lpA (from + k) (flute_reached f srf lpA from start k) (at_next f gain srf lpA from start k)
          (tabled_at sines k h ∙ ap sinf_of (tabled_at turns k h)) (tabled_at breath k h)

-- ---- the generator
module _ (f : ℕ → Float) (gain srf lpA : Float) (s : FluteState) (n : ℕ) where
  pub flute_draws : s.rng.0 < 2 ^ 64 → (state_at (λ i. flute_at (f i) gain srf lpA i) (λ r. r.sample) (λ r. r.state) s n).rng.0 ≡ state_after s.rng.0 n
  unfolding flute_at
  flute_draws h =
      part_iterated (λ i. flute_at (f i) gain srf lpA i) (λ r. r.sample) (λ r. r.state) (λ (s : FluteState). s.rng.0) (λ i. advance) (λ i s. refl) s n
      ∙ draws_leave s.rng.0 n h
