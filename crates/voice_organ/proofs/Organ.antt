-- A frame of the organ from its sines and the percussion's level is the definition's, and so is a block of frames. Assumes nothing.
use Prim.Native.Nat.{ℕ, ◌+◌, ◌-◌, ◌*◌, ◌≤◌, ◌<◌}
use mathlib.Core.Path.{◌≡◌, refl, sym, ap, ◌∙◌}
use mathlib.Core.List.{List}
use native.Mathlib.Omega.{arith}
use lib.Dec.{lit<}
use lib.ListN.{length, get_or}
use lib.Ieee.{Float, nan}
use Rattle.laws.specs.Run.{samples, iterate}
use Rattle.trig.specs.Single.{sinf_of}
use Rattle.blocks.specs.Stored.{stored}
use Rattle.blocks.proofs.Block.{Tabled, tabled_at, tabled_frame}
use Rattle.blocks.proofs.Rows.{Rows, rows_through, rows_first}
use Rattle.blocks.proofs.Carried.{Carried, carried_block, carried_part}
use Rattle.ieee.specs.Binary32.{◌⊗◌}
use Rattle.ieee.specs.Numbers.{c0, c0·2}
use Rattle.dsl.specs.Drawbars.{c6}
use Rattle.dsl.specs.declared.knobs.Drawbars.{Drawbars}
use Rattle.dsp.specs.Kernels.{TAU, sin_of}
use Rattle.frame_block.specs.Decay.{decay_at}
use Rattle.voice_organ.specs.Organ.{organ_norm, organ_at, organ_frames}
use Rattle.voice_organ.specs.Block.{organ_next, organ_reached, organ_turns, organ_sixth, organ_sixth_turn, organ_mix, organ_mix_at}

pub five : (b : Drawbars) (phase : Float) → length (organ_turns b phase) ≡ 5
unfolding organ_turns
five b phase = refl

pub one : (phase : Float) → length (organ_sixth phase) ≡ 1
unfolding organ_sixth
one phase = refl

place : (k : ℕ) → k ≡ k * 1 + 0
place k = omega arith

sixth_at : (at : ℕ → Float) (y : List Float) → Rows 1 (λ k. organ_sixth (at k)) nan 64 y → (k : ℕ) → k < 64 → get_or y k nan ≡ TAU ⊗ at k ⊗ c6
unfolding organ_sixth
sixth_at at y r k h = ap (λ (j : ℕ). get_or y j nan) (place k) ∙ r.at k 0 h (lit< tt)

fourth_at : (b : Drawbars) (at : ℕ → Float) (x s : List Float) → Rows 5 (λ k. organ_turns b (at k)) nan 64 x → Tabled (λ j. sinf_of (get_or x j nan)) nan 0 320 s
    → (k : ℕ) → k < 64 → get_or s (k * 5 + 3) nan ≡ sinf_of (TAU ⊗ at k ⊗ b.ratio4)
unfolding organ_turns
fourth_at b at x s r t k h = rows_through sinf_of r t k 3 h (lit< tt)

-- at the ratio 6 the fourth bar's sine is the percussion's
pub shared :
    (b : Drawbars) (at : ℕ → Float) {x y s : List Float} →
    Rows 5 (λ k. organ_turns b (at k)) nan 64 x →
    Rows 1 (λ k. organ_sixth (at k)) nan 64 y →
    Tabled (λ j. sinf_of (get_or x j nan)) nan 0 320 s →
    b.ratio4 ≡ c6 →
    (k : ℕ) →
    k < 64 →
    get_or s (k * 5 + 3) nan ≡ sinf_of (get_or y k nan)
shared b at {x} {y} {s} r z t six k h = fourth_at b at x s r t k h ∙ ap (λ (v : Float). sinf_of (TAU ⊗ at k ⊗ v)) six ∙ sym (ap sinf_of (sixth_at at y z k h))

-- the same of a block of n frames
pub shared_of :
    (b : Drawbars) (at : ℕ → Float) {n : ℕ} {x y s : List Float} →
    Rows 5 (λ k. organ_turns b (at k)) nan n x →
    Tabled (λ k. organ_sixth_turn (at k)) nan 0 n y →
    Tabled (λ j. sinf_of (get_or x j nan)) nan 0 (n * 5) s →
    b.ratio4 ≡ c6 →
    (k : ℕ) →
    k < n →
    get_or s (k * 5 + 3) nan ≡ sinf_of (get_or y k nan)
unfolding organ_turns
shared_of b at rows sixes sines six k h = rows_through sinf_of rows sines k 3 h (lit< tt) ∙ ap (λ (v : Float). sinf_of (TAU ⊗ at k ⊗ v)) six ∙ sym (ap sinf_of (tabled_at sixes k h))

module _ (b : Drawbars) (norm : Float) where
  organ_sample :
      (fi srf : Float) (i : ℕ) (phase : Float) {s1 s2 s3 s4 s5 p e : Float} →
      s1 ≡ sin_of (TAU ⊗ phase ⊗ b.ratio1) →
      s2 ≡ sin_of (TAU ⊗ phase ⊗ b.ratio2) →
      s3 ≡ sin_of (TAU ⊗ phase ⊗ b.ratio3) →
      s4 ≡ sin_of (TAU ⊗ phase ⊗ b.ratio4) →
      s5 ≡ sin_of (TAU ⊗ phase ⊗ b.ratio5) →
      p ≡ sin_of (TAU ⊗ phase ⊗ c6) →
      e ≡ decay_at srf c0·2 i →
      organ_mix b norm s1 s2 s3 s4 s5 p e ≡ (organ_at b norm fi srf i phase).sample
  unfolding organ_mix organ_at
  organ_sample fi srf i phase p q r s t u v = rw (p, q, r, s, t, u, v)

  -- ---- a block of 64 frames
  module _ (f : ℕ → Float) (srf : Float) (from : ℕ) (start : Float) where
    abbrev next : ℕ → Float → Float
    next k s = organ_next (f (from + k)) srf s

    pub organ_carried :
        {x y s p e out₀ out : List Float} {r : Float} →
        Rows 5 (λ k. organ_turns b (iterate next start k)) nan 64 x →
        Rows 1 (λ k. organ_sixth (iterate next start k)) nan 64 y →
        Tabled (λ j. sinf_of (get_or x j nan)) nan 0 320 s →
        Tabled (λ k. sinf_of (get_or y k nan)) nan 0 64 p →
        Tabled (λ k. decay_at srf c0·2 (from + k)) nan 0 64 e →
        from + 64 ≤ length out₀ →
        out ≡ stored (λ k. organ_mix b norm (get_or s (k * 5) nan) (get_or s (k * 5 + 1) nan) (get_or s (k * 5 + 2) nan)
        (get_or s (k * 5 + 3) nan) (get_or s (k * 5 + 4) nan) (get_or p k nan) (get_or e k nan))
        from 64 out₀ →
        r ≡ iterate next start 64 →
        Carried (λ i. organ_at b norm (f i) srf i) (λ o. o.sample) (λ o. o.state) from (from + 64) out₀ start out r
    unfolding organ_at
    organ_carried {x} {y} {s} {p} {e} rows sixes sines pings levels room is g =
        carried_block (λ i. organ_at b norm (f i) srf i) (λ o. o.sample) (λ o. o.state) from start
        (λ k. organ_mix b norm (get_or s (k * 5) nan) (get_or s (k * 5 + 1) nan) (get_or s (k * 5 + 2) nan)
        (get_or s (k * 5 + 3) nan) (get_or s (k * 5 + 4) nan) (get_or p k nan) (get_or e k nan)) 64 room right is g
      where
        sine : (k j : ℕ) → k < 64 → j < 5 → get_or s (k * 5 + j) nan ≡ sinf_of (get_or (organ_turns b (iterate next start k)) j nan)
        sine k j h l = rows_through sinf_of rows sines k j h l

        right : (k : ℕ) → k < 64 →
            organ_mix b norm (get_or s (k * 5) nan) (get_or s (k * 5 + 1) nan) (get_or s (k * 5 + 2) nan) (get_or s (k * 5 + 3) nan) (get_or s (k * 5 + 4) nan) (get_or p k nan) (get_or e k nan)
            ≡ (organ_at b norm (f (from + k)) srf (from + k) (iterate next start k)).sample
        right k h =
            organ_sample (f (from + k)) srf (from + k) (iterate next start k)
            (unfold organ_turns in rows_first sinf_of rows sines k h (lit< tt))
            (unfold organ_turns in sine k 1 h (lit< tt))
            (unfold organ_turns in sine k 2 h (lit< tt))
            (unfold organ_turns in sine k 3 h (lit< tt))
            (unfold organ_turns in sine k 4 h (lit< tt))
            (tabled_at pings k h ∙ ap sinf_of (sixth_at (iterate next start) y sixes k h))
            (tabled_at levels k h)

  -- the frames from `from` on and before `end`
  module _ (f : ℕ → Float) (srf : Float) (from end : ℕ) (start : Float) where
    pub organ_carried_part :
        {x y s p e out₀ out : List Float} {r : Float} →
        Rows 5 (λ k. organ_turns b (organ_reached f srf from start k)) nan (end - from) x →
        Tabled (λ k. organ_sixth_turn (organ_reached f srf from start k)) nan 0 (end - from) y →
        Tabled (λ j. sinf_of (get_or x j nan)) nan 0 ((end - from) * 5) s →
        Tabled (λ k. sinf_of (get_or y k nan)) nan 0 (end - from) p →
        Tabled (decay_at srf c0·2) nan from end e →
        from ≤ end →
        end ≤ length out₀ →
        out ≡ stored (organ_mix_at b norm s p e) from (end - from) out₀ →
        r ≡ organ_reached f srf from start (end - from) →
        Carried (λ i. organ_at b norm (f i) srf i) (λ o. o.sample) (λ o. o.state) from end out₀ start out r
    unfolding organ_at
    organ_carried_part {s = s} {p = p} {e = e} rows sixes sines pings levels le room is g =
        carried_part (λ i. organ_at b norm (f i) srf i) (λ o. o.sample) (λ o. o.state) from start (organ_mix_at b norm s p e) end le room right is g
      where
        sine : (k j : ℕ) → k < end - from → j < 5 → get_or s (k * 5 + j) nan ≡ sinf_of (get_or (organ_turns b (organ_reached f srf from start k)) j nan)
        sine k j h l = rows_through sinf_of rows sines k j h l

        right : (k : ℕ) → k < end - from → organ_mix_at b norm s p e k ≡ (organ_at b norm (f (from + k)) srf (from + k) (organ_reached f srf from start k)).sample
        right k h =
            unfold organ_mix_at in
            organ_sample (f (from + k)) srf (from + k) (organ_reached f srf from start k)
            (unfold organ_turns in rows_first sinf_of rows sines k h (lit< tt))
            (unfold organ_turns in sine k 1 h (lit< tt))
            (unfold organ_turns in sine k 2 h (lit< tt))
            (unfold organ_turns in sine k 3 h (lit< tt))
            (unfold organ_turns in sine k 4 h (lit< tt))
            (tabled_at pings k h ∙ ap sinf_of (tabled_at sixes k h))
            (tabled_frame levels k h)

-- ---- a note by the norm that the code worked out
pub organ_frames_lem :
    (b : Drawbars) (f : ℕ → Float) (srf : Float) (n : ℕ) {norm : Float} {out : List Float} →
    norm ≡ organ_norm b →
    out ≡ samples (λ i. organ_at b norm (f i) srf i) (λ r. r.sample) (λ r. r.state) c0 n →
    out ≡ organ_frames b f srf n
unfolding organ_frames
organ_frames_lem b f srf n e g = g ∙ ap (λ (norm : Float). samples (λ i. organ_at b norm (f i) srf i) (λ r. r.sample) (λ r. r.state) c0 n) e
