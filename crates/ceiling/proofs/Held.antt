-- A note of step 0 that is held as long as a note can be starts at frame 0 and sounds in all n frames. Assumes nothing.
use Prim.Native.Nat.{ℕ, ◌-◌, ◌*◌, ◌^◌, ◌≤◌, ◌<◌, max}
use mathlib.Core.Path.{◌≡◌, refl, sym, ap, ◌∙◌, subst}
use mathlib.Core.Bool.{Bool, false, cond}
use native.Mathlib.Nat.{le_trans, zero-lt-suc, mul-pos, mul-le-mul_right}
use native.Mathlib.Omega.{arith}
use lib.Dec.{T, lit≤}
use lib.Ieee.{Float, binary32, le, lt, round, of_bits, to_unsigned}
use lib.Ieee.Exact.{HasValue}
use lib.Ieee.Back.{round_whole}
use lib.Ieee.Order.{round_mono}
use Rattle.ieee.specs.Numbers.{c0, c1, c1000, f32}
use Rattle.ieee.specs.Binary32.{◌⊕◌, ◌⊗◌}
use Rattle.ieee.proofs.Value.{mul_value}
use Rattle.ieee.proofs.Bounds.{AtLeast, le_at_least, at_least_lt}
use Rattle.ieee.proofs.Range.{Between}
use Rattle.ieee.proofs.Size.{Within, value_within, mul_within, add_within, cond_within, cut_within}
use Rattle.dsl.specs.Domain.{Rate, Frames}
use Rattle.dsl.specs.declared.note.SeqNote.{SeqNote}
use Rattle.dsl.proofs.Exact.{step_value, frames_value}
use Rattle.groove.specs.Number.{c60}
use Rattle.groove.specs.Timing.{step_dur_of, swing_delay, human_delay, groove_of}
use Rattle.groove.specs.Length.{length_of, sounded_of}
use Rattle.groove.proofs.Steps.{step_dur_between}
use Rattle.groove.proofs.Start.{dur_within}
use Rattle.score.specs.Score.{straight_place, place_of}
use Rattle.score.specs.declared.place.Place.{Place}
use Rattle.score.proofs.Standing.{straight}
use Rattle.ceiling.specs.Ceiling.{plain_timing}
use Rattle.ceiling.proofs.Longest.{cut_value}

-- ---- the samples per step: a number of at least 7.5
tempo_least : T (le c1 c60)
unfolding le of_bits
tempo_least = tt

tempo_most : T (le c60 c1000)
unfolding le of_bits
tempo_most = tt

module _ (rate : ℕ) (r : Rate rate) where
  abbrev dur : Float
  dur = step_dur_of rate c60 1

  steps : Between 480000 (1 * 1000 * 64) 11520000 1 dur
  steps = step_dur_between rate c60 1 r tempo_least tempo_most (omega arith) (omega arith)

  -- ---- the start: 0 steps, no swing and no humanize
  zero_within : Within c0 0
  unfolding of_bits
  zero_within = omega arith

  exact_0 : HasValue (round binary32 false 0 1) false 0 1
  exact_0 = round_whole binary32 false 0 (lit≤ tt)

  module _ (note : SeqNote) (first : note.step ≡ 0) where
    at : Float
    at = f32 note.step ⊗ dur ⊕ swing_delay note.step c0 dur ⊕ human_delay note c0 dur

    step_within : Within (f32 note.step) 0
    step_within = value_within (f32 note.step) false note.step 1 0 (zero-lt-suc 0) (step_value note.step (omega arith)) (omega arith)

    swing_within : Within (swing_delay note.step c0 dur) 0
    unfolding swing_delay
    swing_within = rw first zero_within

    human_within : Within (human_delay note c0 dur) 0
    unfolding human_delay lt of_bits
    human_within = zero_within

    at_within : Within at 0
    unfolding at
    at_within =
        add_within binary32 0 0 (f32 note.step ⊗ dur ⊕ swing_delay note.step c0 dur) (human_delay note c0 dur) exact_0
        (add_within binary32 0 0 (f32 note.step ⊗ dur) (swing_delay note.step c0 dur) exact_0
        (mul_within binary32 0 (2 ^ 24) (f32 note.step) dur exact_0 step_within (dur_within _ _ dur steps)) swing_within)
        human_within

    start_0 : (groove_of note c0 c0 dur).start ≡ 0
    unfolding groove_of at
    start_0 = let few = cut_within 64 (cond (lt c0 at) at c0) 0 (cond_within (lt c0 at) at c0 0 at_within zero_within) in omega arith

  -- ---- the length: 1,048,575 steps are more than n frames
  module _ (n : ℕ) (some : 1 ≤ n) (few : n ≤ 1000000) where
    whole : Frames n
    whole = record { most = omega arith }

    product : f32 1048575 ⊗ dur ≡ round binary32 false (1048575 * steps.num) (1 * steps.den)
    product = mul_value binary32 (f32 1048575) dur false false 1048575 1 steps.num steps.den (zero-lt-suc 0) steps.den_pos (step_value 1048575 (lit≤ tt)) steps.value

    long : AtLeast (f32 1048575 ⊗ dur) n 1
    long =
        le_at_least (f32 1048575 ⊗ dur) (round binary32 false n 1) n 1 some (round_whole binary32 false n (le_trans few (lit≤ tt)))
        (subst (λ (z : Float). T (le (round binary32 false n 1) z)) (sym product)
        (round_mono binary32 n 1 (1048575 * steps.num) (1 * steps.den) (zero-lt-suc 0) (mul-pos (zero-lt-suc 0) steps.den_pos) (more n steps.num steps.den few steps.least)))
      where
        more : (n num den : ℕ) → n ≤ 1000000 → 480000 * den ≤ num * (1 * 1000 * 64) → n * (1 * den) ≤ 1048575 * num * 1
        more n num den h l = omega (arith, mul-le-mul_right den h)

    length_n : length_of 1048575 dur n ≡ n
    unfolding length_of
    length_n =
        ap (λ (t : Bool). max (to_unsigned 64 (cond t (f32 1048575 ⊗ dur) (f32 n))) 1) (at_least_lt (f32 1048575 ⊗ dur) (f32 n) n 1 (zero-lt-suc 0) (frames_value n whole) long)
        ∙ end n some (to_unsigned 64 (f32 n)) (cut_value (f32 n) n (below n few) (frames_value n whole))
      where
        below : (n : ℕ) → n ≤ 1000000 → n < 2 ^ 64
        below n h = omega arith

        end : (n : ℕ) → 1 ≤ n → (k : ℕ) → k ≡ n → max k 1 ≡ n
        end n some k e = omega arith

    -- THE PLACE
    module _ (note : SeqNote) (first : note.step ≡ 0) (held : note.len ≡ 1048575) where
      abbrev stands : Place
      stands = place_of (plain_timing rate) n note

      is_straight : stands ≡ straight_place (plain_timing rate) n note
      is_straight = straight (plain_timing rate) n note refl

      pub starts_0 : stands.start ≡ 0
      unfolding straight_place
      starts_0 = ap (λ (p : Place). p.start) is_straight ∙ start_0 note first

      len_n : stands.len ≡ n
      unfolding straight_place
      len_n = ap (λ (p : Place). p.len) is_straight ∙ rw held length_n

      pub sounds_all : stands.sounded ≡ n
      unfolding straight_place
      sounds_all =
          let len : length_of note.len dur n ≡ n = rw held length_n in
          ap (λ (p : Place). p.sounded) is_straight ∙ (λ j. sounded_of n (start_0 note first j) (len j)) ∙ all n
        where
          all : (n : ℕ) → sounded_of n 0 n ≡ n
          all n = omega arith
