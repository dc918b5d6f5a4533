-- A note of the domain starts no later than frame 2^44 + 2^25, and its start and its length add up to less than 2^45. Assumes nothing.
use Rattle.std.proofs.Common.{◌≡◌, ℕ, ◌+◌, ◌-◌, ◌*◌, ◌/◌, ◌%◌, ◌^◌, ◌<◌, ◌≤◌, Bool, true, false, cond, T, eqb, ltb, pos, refl, zero-lt-suc, arith, lit<, lit≤, eqb→eq, pow_pos, ltb-false, ltb-true}
use lib.Ieee.{Float, nan, inf, fin, up, down, binary32, le, lt, round, of_bits}
use lib.Ieee.Fits.{and_l}
use lib.Ieee.Exact.{HasValue, round_exact}
use lib.Ieee.Back.{round_whole}
use Rattle.ieee.specs.Numbers.{c0, c0·12, c0·5, c1, f32}
use Rattle.ieee.specs.Binary32.{◌⊕◌, ◌⊗◌}
use Rattle.ieee.proofs.Bounds.{le_at_most}
use Rattle.ieee.proofs.Range.{Between}
use Rattle.ieee.proofs.Size.{Within, value_within, mul_within, add_within, cond_within, cut_within}
use Rattle.rng.specs.SplitMix64.{next}
use Rattle.rng.specs.Draw.{bi_of}
use Rattle.rng.proofs.States.{top_lt}
use Rattle.rng.proofs.Draws.{bi_low, bi_high}
use Rattle.dsl.specs.Domain.{Frames}
use Rattle.dsl.specs.declared.note.SeqNote.{SeqNote}
use Rattle.groove.specs.Humanize.{seed_of, humanize_draws}
use Rattle.groove.specs.Timing.{swing_delay, human_delay, groove_of}
use Rattle.groove.specs.Length.{length_of}
use Rattle.dsl.proofs.Exact.{step_value}
use Rattle.groove.proofs.Room.{length_most}

-- ---- bounds that are f32 values
exact_1 : HasValue (round binary32 false (1 * 1) 1) false (1 * 1) 1
exact_1 = round_whole binary32 false 1 (lit≤ tt)

exact_24 : HasValue (round binary32 false (2 ^ 24) 1) false (2 ^ 24) 1
exact_24 = round_whole binary32 false (2 ^ 24) (lit≤ tt)

exact_44 : HasValue (round binary32 false (2 ^ 44) 1) false (2 ^ 44) 1
exact_44 = round_exact binary32 false (2 ^ 44) 1 1 193 (zero-lt-suc 0) (lit< tt) (lit< tt) refl

exact_sum : HasValue (round binary32 false (2 ^ 44 + 2 ^ 24) 1) false (2 ^ 44 + 2 ^ 24) 1
exact_sum = round_exact binary32 false (2 ^ 44 + 2 ^ 24) 1 (2 ^ 20 + 1) 173 (zero-lt-suc 0) (lit< tt) (lit< tt) refl

exact_both : HasValue (round binary32 false (2 ^ 44 + 2 ^ 24 + 2 ^ 24) 1) false (2 ^ 44 + 2 ^ 24 + 2 ^ 24) 1
exact_both = round_exact binary32 false (2 ^ 44 + 2 ^ 24 + 2 ^ 24) 1 (2 ^ 20 + 2) 173 (zero-lt-suc 0) (lit< tt) (lit< tt) refl

-- ---- the numbers that are at most 1
zero_within : (b : ℕ) → Within c0 b
unfolding of_bits
zero_within b = omega arith

half_within : Within c0·5 1
unfolding of_bits
half_within = lit≤ tt

c0·12_within : Within c0·12 1
unfolding of_bits
c0·12_within = lit≤ tt

bi_within : (k : ℕ) → k < 2 ^ 24 → Within (bi_of k) 1
bi_within k h = go (ltb k (2 ^ 23)) refl
  where
    go : (t : Bool) → ltb k (2 ^ 23) ≡ t → Within (bi_of k) 1
    go true e = value_within (bi_of k) true (2 ^ 23 - k) (2 ^ 23) 1 (pow_pos 23) (bi_low k (ltb-true k (2 ^ 23) e)) (omega arith)
    go false e = value_within (bi_of k) false (k - 2 ^ 23) (2 ^ 23) 1 (pow_pos 23) (bi_high k (ltb-false k (2 ^ 23) e)) (omega arith)

-- "Swing and humanize 0 to 1": −0 is in the range
pub unit_within : (x : Float) → T (le c0 x) → T (le x c1) → Within x 1
unfolding le of_bits
unit_within nan l m = m
unit_within (inf true) l m = l
unit_within (inf false) l m = m
unit_within (fin true n e) l m = none (n * up e) (down e) (eqb→eq (0 * down e) (n * up e * 1) (and_l (eqb (0 * down e) (n * up e * 1)) _ l))
  where
    none : (a d : ℕ) → 0 * d ≡ a * 1 → a ≤ 1 * d
    none a d z = omega arith
unit_within (fin false n e) l m = plain (n * up e) (down e) (le_at_most (fin false n e) (fin false 1 (pos 0)) 1 1 (refl, refl) m)
  where
    plain : (a d : ℕ) → a * 1 ≤ 1 * d → a ≤ 1 * d
    plain a d h = omega arith

-- the samples per step of the domain, by `step_dur_between`
pub dur_within : (a c : ℕ) (x : Float) → Between a c 11520000 1 x → Within x (2 ^ 24)
dur_within a c x v = value_within x false v.num v.den (2 ^ 24) v.den_pos v.value (under v.num v.den v.most)
  where
    under : (n d : ℕ) → n * 1 ≤ 11520000 * d → n ≤ 2 ^ 24 * d
    under n d h = omega arith

-- ---- a note
module _ (note : SeqNote) (swing humanize dur : Float) (step : note.step ≤ 1048575) (D : Within dur (2 ^ 24)) (S : Within swing 1) (H : Within humanize 1) where
  step_within : Within (f32 note.step) (2 ^ 20)
  step_within = value_within (f32 note.step) false note.step 1 (2 ^ 20) (zero-lt-suc 0) (step_value note.step step) (omega arith)

  swing_within : Within (swing_delay note.step swing dur) (2 ^ 24)
  unfolding swing_delay
  swing_within =
      cond_within (eqb (note.step % 2) 1) (swing ⊗ c0·5 ⊗ dur) c0 (2 ^ 24)
      (mul_within binary32 1 (2 ^ 24) (swing ⊗ c0·5) dur exact_24 (mul_within binary32 1 1 swing c0·5 exact_1 S half_within) D)
      (zero_within (2 ^ 24))

  draw_within : Within (humanize_draws note).timing 1
  unfolding humanize_draws
  draw_within = bi_within (next (seed_of note) / 2 ^ 40) (top_lt (seed_of note))

  human_within : Within (human_delay note humanize dur) (2 ^ 24)
  unfolding human_delay
  human_within = cond_within (lt c0 humanize) _ _ (2 ^ 24) moved (zero_within (2 ^ 24))
    where
      moved : Within (humanize ⊗ c0·12 ⊗ dur ⊗ (humanize_draws note).timing) (2 ^ 24)
      moved =
          mul_within binary32 (2 ^ 24) 1 (humanize ⊗ c0·12 ⊗ dur) (humanize_draws note).timing exact_24
          (mul_within binary32 1 (2 ^ 24) (humanize ⊗ c0·12) dur exact_24 (mul_within binary32 1 1 humanize c0·12 exact_1 H c0·12_within) D) draw_within

  at : Float
  at = f32 note.step ⊗ dur ⊕ swing_delay note.step swing dur ⊕ human_delay note humanize dur

  at_within : Within at (2 ^ 44 + 2 ^ 25)
  unfolding at
  at_within =
      add_within binary32 (2 ^ 44 + 2 ^ 24) (2 ^ 24) (f32 note.step ⊗ dur ⊕ swing_delay note.step swing dur) (human_delay note humanize dur) exact_both
      (add_within binary32 (2 ^ 44) (2 ^ 24) (f32 note.step ⊗ dur) (swing_delay note.step swing dur) exact_sum
      (mul_within binary32 (2 ^ 20) (2 ^ 24) (f32 note.step) dur exact_44 step_within D) swing_within)
      human_within

  pub start_most : (groove_of note swing humanize dur).start ≤ 2 ^ 44 + 2 ^ 25
  unfolding groove_of at
  start_most = cut_within 64 (cond (lt c0 at) at c0) (2 ^ 44 + 2 ^ 25) (cond_within (lt c0 at) at c0 (2 ^ 44 + 2 ^ 25) at_within (zero_within (2 ^ 44 + 2 ^ 25)))

  -- of a skipped note too
  pub end_most : (n : ℕ) → Frames n → (groove_of note swing humanize dur).start + length_of note.len dur n < 2 ^ 45
  end_most n h = omega (arith, start_most, length_most note.len dur n h, h.most)
