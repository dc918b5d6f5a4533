-- A block of frames of the electric piano from its tables is the definition's. Assumes nothing.
use Prim.Native.Nat.{ℕ, ◌+◌, ◌-◌, ◌*◌, ◌≤◌, ◌<◌}
use mathlib.Core.Path.{◌≡◌, ap, ◌∙◌}
use mathlib.Core.List.{List}
use native.Mathlib.Omega.{arith}
use lib.Dec.{lit<}
use lib.ListN.{length, get_or}
use lib.Ieee.{Float, nan}
use Rattle.laws.specs.Run.{iterate}
use Rattle.trig.specs.Single.{sinf_of}
use Rattle.blocks.specs.Stored.{stored}
use Rattle.blocks.proofs.Block.{Tabled, tabled_at, tabled_frame}
use Rattle.blocks.proofs.Rows.{Rows, rows_through, rows_first}
use Rattle.blocks.proofs.Carried.{Carried, carried_block, carried_part}
use Rattle.ieee.specs.Numbers.{c0·5}
use Rattle.ieee.specs.Binary32.{◌⊗◌}
use Rattle.dsp.specs.Kernels.{TAU}
use Rattle.osc.specs.Phase.{increment}
use Rattle.frame_block.specs.Decay.{decay_at}
use Rattle.voice_epiano.specs.Epiano.{c0·035, epiano_at}
use Rattle.voice_epiano.specs.Block.{inner_turns, carrier_turn, carrier_turn_of, epiano_mix, outer_turns, outer_turns_at, epiano_mix_at, epiano_next, epiano_reached}
use Rattle.voice_epiano.proofs.Frame.{epiano_sample}
use Rattle.voice_epiano.specs.declared.EpianoState.{EpianoState}

-- ---- a block of 64 frames
carrier_at : (at : ℕ → EpianoState) (c : List Float) → Rows 1 (λ k. carrier_turn (at k)) nan 64 c → (k : ℕ) → k < 64 → get_or c k nan ≡ TAU ⊗ (at k).cph
unfolding carrier_turn
carrier_at at c r k h = ap (λ (j : ℕ). get_or c j nan) (place k) ∙ r.at k 0 h (lit< tt)
  where
    place : (k : ℕ) → k ≡ k * 1 + 0
    place k = omega arith

module _ (f : ℕ → Float) (gain srf decay : Float) (from : ℕ) (start : EpianoState) where
  abbrev next : ℕ → EpianoState → EpianoState
  next k s = epiano_next s (increment (f (from + k)) srf)

  abbrev at : ℕ → EpianoState
  at = iterate next start

  pub epiano_carried :
      {x c m y s soft ping fade out₀ out : List Float} {r : EpianoState} →
      Rows 2 (λ k. inner_turns (at k)) nan 64 x →
      Rows 1 (λ k. carrier_turn (at k)) nan 64 c →
      Tabled (λ j. sinf_of (get_or x j nan)) nan 0 128 m →
      Rows 2 (λ k. outer_turns gain (get_or c k nan) (get_or soft k nan) (get_or ping k nan) (get_or m (k * 2) nan) (get_or m (k * 2 + 1) nan)) nan 64 y →
      Tabled (λ j. sinf_of (get_or y j nan)) nan 0 128 s →
      Tabled (λ k. decay_at srf c0·5 (from + k)) nan 0 64 soft →
      Tabled (λ k. decay_at srf c0·035 (from + k)) nan 0 64 ping →
      Tabled (λ k. decay_at srf decay (from + k)) nan 0 64 fade →
      from + 64 ≤ length out₀ →
      out ≡ stored (λ k. epiano_mix (get_or s (k * 2) nan) (get_or s (k * 2 + 1) nan) (get_or fade k nan)) from 64 out₀ →
      r ≡ at 64 →
      Carried (λ i. epiano_at (f i) gain srf decay i) (λ o. o.sample) (λ o. o.state) from (from + 64) out₀ start out r
  unfolding epiano_at epiano_next
  epiano_carried {x} {c} {m} {y} {s} {soft} {ping} {fade} inner carrier inners outer outers d0 d1 d2 room e g =
      carried_block (λ i. epiano_at (f i) gain srf decay i) (λ o. o.sample) (λ o. o.state) from start
      (λ k. epiano_mix (get_or s (k * 2) nan) (get_or s (k * 2 + 1) nan) (get_or fade k nan)) 64 room right e g
    where
      right : (k : ℕ) → k < 64 → epiano_mix (get_or s (k * 2) nan) (get_or s (k * 2 + 1) nan) (get_or fade k nan) ≡ (epiano_at (f (from + k)) gain srf decay (from + k) (at k)).sample
      right k h =
          epiano_sample (f (from + k)) gain srf decay (from + k) (at k) {m = get_or m (k * 2) nan} {p = get_or m (k * 2 + 1) nan} (carrier_at at c carrier k h)
          (unfold inner_turns in rows_first sinf_of inner inners k h (lit< tt))
          (unfold inner_turns in rows_through sinf_of inner inners k 1 h (lit< tt))
          (tabled_at d0 k h) (tabled_at d1 k h) (tabled_at d2 k h)
          (unfold outer_turns in rows_first sinf_of outer outers k h (lit< tt))
          (unfold outer_turns in rows_through sinf_of outer outers k 1 h (lit< tt))

-- the frames from `from` on and before `end`
module _ (f : ℕ → Float) (gain srf decay : Float) (from end : ℕ) (start : EpianoState) where
  pub epiano_carried_part :
      {x c m y s soft ping fade out₀ out : List Float} {r : EpianoState} →
      Rows 2 (λ k. inner_turns (epiano_reached f srf from start k)) nan (end - from) x →
      Tabled (λ k. carrier_turn_of (epiano_reached f srf from start k)) nan 0 (end - from) c →
      Tabled (λ j. sinf_of (get_or x j nan)) nan 0 ((end - from) * 2) m →
      Rows 2 (outer_turns_at gain c soft ping m) nan (end - from) y →
      Tabled (λ j. sinf_of (get_or y j nan)) nan 0 ((end - from) * 2) s →
      Tabled (decay_at srf c0·5) nan from end soft →
      Tabled (decay_at srf c0·035) nan from end ping →
      Tabled (decay_at srf decay) nan from end fade →
      from ≤ end →
      end ≤ length out₀ →
      out ≡ stored (epiano_mix_at s fade) from (end - from) out₀ →
      r ≡ epiano_reached f srf from start (end - from) →
      Carried (λ i. epiano_at (f i) gain srf decay i) (λ o. o.sample) (λ o. o.state) from end out₀ start out r
  unfolding epiano_at epiano_next
  epiano_carried_part {c = c} {m = m} {s = s} {soft = soft} {ping = ping} {fade = fade} inner carrier inners outer outers d0 d1 d2 le room e g =
      carried_part (λ i. epiano_at (f i) gain srf decay i) (λ o. o.sample) (λ o. o.state) from start (epiano_mix_at s fade) end le room right e g
    where
      right : (k : ℕ) → k < end - from → epiano_mix_at s fade k ≡ (epiano_at (f (from + k)) gain srf decay (from + k) (epiano_reached f srf from start k)).sample
      right k h =
          unfold epiano_mix_at in
          epiano_sample (f (from + k)) gain srf decay (from + k) (epiano_reached f srf from start k) {m = get_or m (k * 2) nan} {p = get_or m (k * 2 + 1) nan} (tabled_at carrier k h)
          (unfold inner_turns in rows_first sinf_of inner inners k h (lit< tt))
          (unfold inner_turns in rows_through sinf_of inner inners k 1 h (lit< tt))
          (tabled_frame d0 k h) (tabled_frame d1 k h) (tabled_frame d2 k h)
          (unfold outer_turns outer_turns_at in rows_first sinf_of outer outers k h (lit< tt))
          (unfold outer_turns outer_turns_at in rows_through sinf_of outer outers k 1 h (lit< tt))
