-- The frames of a hit that draw are its first ones, as many as its count: at every rate of the domain the tests of render/kit.rs, frame by frame in f32, and the formula agree. Assumes nothing.
use mathlib.Core.Path.{◌≡◌, sym, ◌∙◌}
use Prim.Native.Nat.{ℕ, ◌^◌, ◌≤◌, ◌<◌, min}
use native.Mathlib.Nat.{le_refl, lt_of_lt_of_le}
use native.Mathlib.Omega.{arith}
use mathlib.Core.Bool.{Bool, true, false}
use lib.Dec.{ltb, ltb→lt, lt→ltb}
use borrow.Author.Tests.{lt-ltb, le-ltb}
use lib.Ieee.{Float, lt}
use Rattle.ieee.specs.Numbers.{f32}
use Rattle.ieee.specs.Binary32.{◌⊘◌}
use Rattle.ieee.proofs.Value.{same_test}
use Rattle.dsl.specs.Domain.{Rate}
use Rattle.dsl.specs.declared.kit.KitStyle.{KitStyle}
use Rattle.dsl.specs.declared.kit.KitStyle.TheVariants.{Classic, Acoustic, Electronic, Eight08}
use Rattle.drum.specs.declared.Drum.{Drum}
use Rattle.drum.specs.declared.Drum.TheVariants.{Kick, Snare, Rim, Clap, ClosedHat, OpenHat, Tom, Cowbell, Crash, Ride, Unmapped}
use Rattle.counts.specs.Draws.{frames_within, passing}
use Rattle.counts.proofs.Early.{Fraction, c0·002_fraction, c0·003_fraction, c0·004_fraction, c0·018_fraction, early_first, passing_first}
use Rattle.kit_counts.specs.KitDraws.{draws_below, eight08_draws, draws_at, frames_of, draws_within, eight08_within, kit_draws}

-- frame i of a hit of n frames
module _ (rate n i : ℕ) (r : Rate rate) (inside : i < n) (few : n ≤ 2 ^ 24) where
  always : true ≡ ltb i n
  always = sym (lt-ltb i n inside)

  never : false ≡ ltb i 0
  never = sym (le-ltb i 0 (omega arith))

  for_a_while : {c : Float} {ms : ℕ} → Fraction c ms 1000 → lt (f32 i ⊘ f32 rate) c ≡ ltb i (frames_of ms rate n)
  for_a_while {c} {ms} w = early_first w rate i r (lt_of_lt_of_le inside few) ∙ cut (frames_within ms 1000 rate)
    where
      both : (i n k : ℕ) → i < n → i < k → i < min n k
      both i n k a b = omega arith

      one : (i n k : ℕ) → i < min n k → i < k
      one i n k a = omega arith

      cut : (k : ℕ) → ltb i k ≡ ltb i (min n k)
      cut k = same_test (ltb i k) (ltb i (min n k)) (λ t. lt→ltb i (min n k) (both i n k inside (ltb→lt i k t))) (λ t. lt→ltb i k (one i n k (ltb→lt i (min n k) t)))

  below_first : {c : Float} {ms : ℕ} → Fraction c ms 1000 → (drum : Drum) → draws_below c drum (f32 i ⊘ f32 rate) ≡ ltb i (draws_within ms drum rate n)
  unfolding draws_below draws_within
  below_first w Kick = for_a_while w
  below_first w Snare = always
  below_first w Rim = always
  below_first w Clap = always
  below_first w ClosedHat = always
  below_first w OpenHat = always
  below_first w (Tom above) = always
  below_first w Cowbell = never
  below_first w Crash = always
  below_first w Ride = always
  below_first w Unmapped = always

  eight08_first : (drum : Drum) → eight08_draws drum (f32 i ⊘ f32 rate) ≡ ltb i (eight08_within drum rate n)
  unfolding eight08_draws eight08_within
  eight08_first Kick = for_a_while c0·004_fraction
  eight08_first Snare = always
  eight08_first Rim = for_a_while c0·003_fraction
  eight08_first Clap = always
  eight08_first ClosedHat = never
  eight08_first OpenHat = never
  eight08_first (Tom above) = never
  eight08_first Cowbell = never
  eight08_first Crash = always
  eight08_first Ride = always
  eight08_first Unmapped = always

  -- it draws exactly if i is below the count
  pub kit_first : (style : KitStyle) (drum : Drum) → draws_at style drum (f32 i ⊘ f32 rate) ≡ ltb i (kit_draws style drum rate n)
  unfolding kit_draws
  kit_first Classic drum = below_first c0·002_fraction drum
  kit_first Acoustic drum = below_first c0·018_fraction drum
  kit_first Electronic drum = below_first c0·003_fraction drum
  kit_first Eight08 drum = eight08_first drum

-- ---- a count is at most the frames
min_most : (n k : ℕ) → min n k ≤ n
min_most n k = omega arith

none_most : (n : ℕ) → 0 ≤ n
none_most n = omega arith

within_most : (ms : ℕ) (drum : Drum) (rate n : ℕ) → draws_within ms drum rate n ≤ n
unfolding draws_within
within_most ms Kick rate n = min_most n (frames_within ms 1000 rate)
within_most ms Snare rate n = le_refl n
within_most ms Rim rate n = le_refl n
within_most ms Clap rate n = le_refl n
within_most ms ClosedHat rate n = le_refl n
within_most ms OpenHat rate n = le_refl n
within_most ms (Tom above) rate n = le_refl n
within_most ms Cowbell rate n = none_most n
within_most ms Crash rate n = le_refl n
within_most ms Ride rate n = le_refl n
within_most ms Unmapped rate n = le_refl n

eight08_most : (drum : Drum) (rate n : ℕ) → eight08_within drum rate n ≤ n
unfolding eight08_within
eight08_most Kick rate n = min_most n (frames_within 4 1000 rate)
eight08_most Snare rate n = le_refl n
eight08_most Rim rate n = min_most n (frames_within 3 1000 rate)
eight08_most Clap rate n = le_refl n
eight08_most ClosedHat rate n = none_most n
eight08_most OpenHat rate n = none_most n
eight08_most (Tom above) rate n = none_most n
eight08_most Cowbell rate n = none_most n
eight08_most Crash rate n = le_refl n
eight08_most Ride rate n = le_refl n
eight08_most Unmapped rate n = le_refl n

pub kit_most : (style : KitStyle) (drum : Drum) (rate n : ℕ) → kit_draws style drum rate n ≤ n
unfolding kit_draws
kit_most Classic drum rate n = within_most 2 drum rate n
kit_most Acoustic drum rate n = within_most 18 drum rate n
kit_most Electronic drum rate n = within_most 3 drum rate n
kit_most Eight08 drum rate n = eight08_most drum rate n

-- ---- the frames that draw, counted
module _ (style : KitStyle) (drum : Drum) (rate n : ℕ) (r : Rate rate) (few : n ≤ 2 ^ 24) where
  abbrev test : ℕ → Bool
  test i = draws_at style drum (f32 i ⊘ f32 rate)

  -- those among the first k
  so_far : (k : ℕ) → k ≤ n → passing test k ≡ min k (kit_draws style drum rate n)
  so_far k h = passing_first test (kit_draws style drum rate n) k (λ i l. kit_first rate n i r (lt_of_lt_of_le l h) few style drum)

  -- of all frames as many as the count says
  pub kit_count : passing test n ≡ kit_draws style drum rate n
  kit_count = so_far n (le_refl n) ∙ all (kit_draws style drum rate n) (kit_most style drum rate n)
    where
      all : (k : ℕ) → k ≤ n → min n k ≡ k
      all k h = omega arith

  -- the draw of frame i is the hit's draw number i, counted from 0
  pub kit_draw_number : (i : ℕ) → i < kit_draws style drum rate n → passing test i ≡ i
  kit_draw_number i l = so_far i (before i (kit_draws style drum rate n) l (kit_most style drum rate n)) ∙ all i (kit_draws style drum rate n) l
    where
      before : (i k : ℕ) → i < k → k ≤ n → i ≤ n
      before i k l h = omega arith

      all : (i k : ℕ) → i < k → min i k ≡ i
      all i k l = omega arith
