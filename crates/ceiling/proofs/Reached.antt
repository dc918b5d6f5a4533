-- THE THEOREM: where the ceiling is at most 2^64 − 1, the named score is accepted by a session at draw 0, and draws exactly the ceiling. Assumes nothing.
use Prim.Native.Nat.{ℕ, zero, suc, ◌+◌, ◌-◌, ◌*◌, ◌%◌, ◌^◌, ◌≤◌, ◌<◌, max}
use mathlib.Core.Path.{◌≡◌, refl, sym, ap, ◌∙◌}
use mathlib.Core.List.{[], ◌∷◌, map}
use mathlib.Core.Bool.{Bool, true, false, cond, not}
use native.Mathlib.Omega.{arith}
use borrow.Author.Tests.{le-ltb, leb-true, leb-false, lt-leb, eq-eqb}
use lib.Dec.{leb, eqb}
use lib.ListN.{length}
use lib.Ieee.{of_bits, le}
use Rattle.laws.specs.Listed.{listed_from}
use Rattle.laws.proofs.Listed.{from_map}
use Rattle.ieee.specs.Numbers.{c0, c1, c20, c1000}
use Rattle.ieee.specs.Order.{within_of}
use Rattle.ieee.specs.Sign.{abs_of}
use Rattle.dsl.specs.Domain.{Rate}
use Rattle.dsl.specs.Sized.{sized_of, all_sized, pitch_sized}
use Rattle.dsl.specs.Knobs.{knob_list}
use Rattle.dsl.specs.Pitch.{value_at, pitch_at}
use Rattle.dsl.specs.declared.kit.KitStyle.TheVariants.{Classic}
use Rattle.dsl.specs.declared.wave.SeqWave.{SeqWave}
use Rattle.dsl.specs.declared.wave.SeqWave.TheVariants.{Noise, Pluck}
use Rattle.dsl.specs.declared.note.Decoded.TheVariants.{Note}
use Rattle.draws.specs.Draws.{draws_of}
use Rattle.groove.specs.Number.{c60}
use Rattle.tempo.specs.Judge.{all_of, chain, in_domain, begins_at_zero, in_order}
use Rattle.tempo.specs.Map.{no_map}
use Rattle.outcome.specs.Answer.{accepted, unless}
use Rattle.outcome.specs.First.{first_of, first_refusal}
use Rattle.outcome.specs.Outcome.{Verdict}
use Rattle.std.specs.Prelude.{Ok}
use Rattle.outcome.proofs.First.{all_false, inside_is}
use Rattle.score.specs.Score.{Score, note_in, note_count, notes_in, note_draws, score_draws, draws_before, skips}
use Rattle.score.specs.Refusals.{call_tests, note_tests, note_refusal, refusal, refusal_at}
use Rattle.score.proofs.Notes.{sounded_draws, draws_all}
use Rattle.session.specs.Opened.{count_in, station_in}
use Rattle.session.specs.declared.session.Session.{Session}
use Rattle.score_contract.specs.Frames.{score_frames}
use Rattle.score_contract.specs.ScoreCall.{result_of}
use Rattle.score_contract.specs.SessionCall.{result_at}
use Rattle.ceiling.specs.Ceiling.{longest_string, ceiling_of, held_notes, loudest, plain_voice, most_drawing}
use Rattle.ceiling.proofs.Longest.{period_at_20}
use Rattle.ceiling.proofs.Held.{starts_0, sounds_all}
use Rattle.ceiling.proofs.Notes.{held, held_length, held_at}

-- ---- tests that a closed score passes
tempo_fine : within_of c60 c1 c1000 ≡ true
unfolding within_of le of_bits
tempo_fine = refl

groove_fine : within_of c0 c0 c1 ≡ true
unfolding within_of le of_bits
groove_fine = refl

map_fine : in_domain no_map ≡ true
unfolding in_domain all_of
map_fine = refl

order_fine : in_order no_map ≡ true
unfolding in_order begins_at_zero chain
order_fine = refl

knobs_fine : (wave : SeqWave) → all_sized (knob_list (plain_voice wave)) ≡ true
unfolding all_sized sized_of abs_of le of_bits
knobs_fine wave = refl

env_fine : all_sized (c0 ∷ c0 ∷ c0 ∷ c0 ∷ c0 ∷ []) ≡ true
unfolding all_sized sized_of abs_of le of_bits
env_fine = refl

none_sized : all_sized [] ≡ true
unfolding all_sized
none_sized = refl

zero_fine : sized_of c0 ≡ true
unfolding sized_of abs_of le of_bits
zero_fine = refl

gain_fine : sized_of held.gain ≡ true
unfolding sized_of abs_of le of_bits
gain_fine = refl

pitch_fine : pitch_sized held.pitch ≡ true
unfolding pitch_sized sized_of abs_of le of_bits
pitch_fine = refl

is_not : {b : Bool} → b ≡ true → not b ≡ false
is_not e = ap not e

-- verdicts that are all fine
none_refuses : (f : ℕ → Verdict) (m k : ℕ) → ((i : ℕ) → i < k + m → f i ≡ Ok tt) → first_refusal (listed_from f m k) ≡ Ok tt
unfolding first_refusal listed_from
none_refuses f zero k h = refl
none_refuses f (suc m) k h = rw (h k (omega arith)) (none_refuses f m (suc k) (λ i l. h i (omega arith)))

module _ (rate m n : ℕ) (r : Rate rate) (some : 1 ≤ n) (few : n ≤ 1000000) where
  abbrev s : Score
  s = most_drawing rate m n

  count_is : note_count s ≡ m
  count_is = let l = held_length m in omega arith

  note_is : (k : ℕ) → k < m → note_in s k ≡ Note held
  note_is k h = held_at m k h

  -- ---- accepted: every test but 22
  call_fine : first_of (call_tests s) ≡ Ok tt
  call_fine =
      all_false (call_tests s) (
        inside_is rate 8000 192000 r.least r.most,
        (
          le-ltb 16777216 n (omega arith),
          (
            is_not tempo_fine,
            (
              inside_is 1 1 64 (omega arith) (omega arith),
              (
                is_not map_fine,
                (
                  is_not order_fine,
                  (
                    is_not groove_fine,
                    (
                      is_not groove_fine,
                      (
                        is_not (knobs_fine (loudest rate n)),
                        (
                          is_not zero_fine,
                          (
                            is_not env_fine,
                            (
                              le-ltb n n (omega arith),
                              (
                                le-ltb 9600 9600 (omega arith),
                                (inside_is 1 1 4096 (omega arith) (omega arith), (is_not fives, (is_not none_sized, tt))),
                              ),
                            ),
                          ),
                        ),
                      ),
                    ),
                  ),
                ),
              ),
            ),
          ),
        ),
      )
    where
      fives : eqb (length (held_notes m) % 5) 0 ≡ true
      fives = eq-eqb (length (held_notes m) % 5) 0 (let l = held_length m in omega arith)

  held_fine : note_refusal s (Note held) ≡ Ok tt
  unfolding note_refusal
  held_fine =
      all_false (note_tests s held) (le-ltb 1048575 0 (omega arith), (le-ltb 1048575 1048575 (omega arith), (is_not gain_fine, (is_not pitch_fine, (refl, tt)))))

  notes_fine : first_refusal (map (note_refusal s) (notes_in s)) ≡ Ok tt
  notes_fine =
      ap first_refusal (from_map (note_refusal s) (note_in s) (note_count s) 0)
      ∙ none_refuses (λ k. note_refusal s (note_in s k)) (note_count s) 0 (λ i h. ap (note_refusal s) (note_is i (omega (arith, count_is))) ∙ held_fine)

  score_fine : refusal s ≡ Ok tt
  unfolding refusal
  score_fine = rw call_fine notes_fine

  -- ---- the draws of one note
  heard : skips s held ≡ false
  heard = lt-leb n _ (let z = starts_0 rate r n some few held refl refl in omega arith)

  first_pitch : pitch_at (record { pitch = held.pitch; hop = 1; inverse = 2 ^ 40 }) [] 0 ≡ c20
  unfolding pitch_at value_at
  first_pitch = refl

  by_wave : (b : Bool) → leb (longest_string rate) n ≡ b → draws_of (cond b Noise Pluck) Classic rate c20 n ≡ max n (longest_string rate)
  unfolding draws_of
  by_wave true e = let l = leb-true (longest_string rate) n e in omega arith
  by_wave false e = omega (arith, leb-false (longest_string rate) n e, period_at_20 rate r)

  held_draws : note_draws s (Note held) ≡ max n (longest_string rate)
  unfolding pitch_at value_at
  held_draws =
      sym (sounded_draws s held heard) ∙ ap (draws_of (loudest rate n) Classic rate c20) (sounds_all rate r n some few held refl refl) ∙ by_wave (leb (longest_string rate) n) refl

  -- ---- and of all
  draws_to : (k : ℕ) → k ≤ m → draws_before s k ≡ k * max n (longest_string rate)
  unfolding draws_before
  draws_to zero h = omega arith
  draws_to (suc k) h = let one = ap (note_draws s) (note_is k (omega arith)) ∙ held_draws in omega (arith, draws_to k (omega arith))

  pub draws_exactly : score_draws s ≡ ceiling_of rate m n
  draws_exactly = draws_all s ∙ ap (draws_before s) count_is ∙ draws_to m (omega arith)

  module _ (fits : ceiling_of rate m n ≤ 2 ^ 64 - 1) where
    pub accepted_at_0 : refusal_at s 0 ≡ Ok tt
    unfolding refusal_at first_of
    accepted_at_0 =
        let h : 0 + score_draws s ≤ 2 ^ 64 - 1 = omega (arith, draws_exactly) in
        rw (score_fine, le-ltb (2 ^ 64 - 1) (0 + score_draws s) h) refl

    -- on any station at draw 0 of any session
    pub reached : (a : Session) (k : ℕ) → k < 8 → count_in a k ≡ 0 → result_at a k s ≡ accepted (ceiling_of rate m n) (score_frames s (station_in a k).rng.0 0)
    unfolding result_at result_of
    reached a k named fresh =
        let le : k ≤ 7 = omega arith in
        let frames = score_frames s (station_in a k).rng.0 0 in
        rw (le-ltb 7 k le) (ap (λ (d : ℕ). unless (refusal_at s d) (accepted (score_draws s) frames)) fresh ∙ ap (λ (v : Verdict). unless v (accepted (score_draws s) frames)) accepted_at_0
        ∙ ap (λ (d : ℕ). accepted d frames) draws_exactly)
