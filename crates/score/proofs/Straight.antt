-- With no points every result is the old one: a score looks at its tempo map in two places, where its notes stand (`straight` of Standing) and in its refusals, which
-- are then 01's own. Assumes nothing.
use Prim.Native.Nat.{ℕ}
use mathlib.Core.Path.{◌≡◌, sym, ap, ◌∙◌}
use mathlib.Core.List.{List, [], ◌∷◌, ◌++◌, map}
use mathlib.Core.Bool.{true, not}
use Rattle.ieee.specs.Numbers.{c0, c1, c1000}
use Rattle.ieee.specs.Order.{within_of}
use Rattle.tempo.specs.Judge.{all_of, chain, in_domain, begins_at_zero, in_order}
use Rattle.tempo.specs.declared.map.TempoMap.{TempoMap}
use Rattle.outcome.specs.First.{Test, ◌⇒◌, first_of, or_else, first_refusal, outside}
use Rattle.outcome.specs.Domain.{domain_tests}
use Rattle.outcome.specs.declared.answer.Refusal.TheVariants.{Tempo, StepsPerBeat, Groove}
use Rattle.outcome.specs.Outcome.{Verdict}
use Rattle.outcome.proofs.First.{first_append}
use Rattle.score.specs.Score.{Score, notes_in}
use Rattle.score.specs.Refusals.{number_tests, voice_tests, lent_tests, list_tests, note_refusal, refusal}
use Rattle.score.specs.declared.seq.Timing.{Timing}

-- 01's own list, "1 rate; 2 n; 3 tempo; 4 steps per beat; 5 swing or humanize"
abbrev pub straight_tests : Timing → ℕ → List Test
straight_tests t n =
    domain_tests t.rate n
    ++ (not (within_of t.tempo c1 c1000) ⇒ Tempo)
    ∷ (outside t.steps_per_beat 1 64 ⇒ StepsPerBeat)
    ∷ (not (within_of t.swing c0 c1) ⇒ Groove)
    ∷ (not (within_of t.humanize c0 c1) ⇒ Groove)
    ∷ []

-- ---- a map of no points is never refused
module _ (m : TempoMap) (none : m.count ≡ 0) where
  none_domain : in_domain m ≡ true
  unfolding in_domain all_of
  none_domain = rw none

  none_order : in_order m ≡ true
  unfolding in_order begins_at_zero chain
  none_order = rw none

module _ (s : Score) (none : s.seq.timing.tempo_map.count ≡ 0) where
  abbrev t : Timing
  t = s.seq.timing

  numbers_same : first_of (number_tests t s.n) ≡ first_of (straight_tests t s.n)
  unfolding first_of
  numbers_same = rw (none_domain t.tempo_map none, none_order t.tempo_map none)

  abbrev rest : List Test
  rest = voice_tests s.seq ++ (lent_tests s ++ list_tests s)

  -- THE THEOREM: with no points a score is refused as 01 alone has it
  pub straight_refusal : refusal s ≡ or_else (first_of (straight_tests t s.n ++ rest)) (first_refusal (map (note_refusal s) (notes_in s)))
  unfolding refusal
  straight_refusal =
      ap (λ (v : Verdict). or_else v (first_refusal (map (note_refusal s) (notes_in s))))
      (first_append (number_tests t s.n) rest ∙ ap (λ (v : Verdict). or_else v (first_of rest)) numbers_same ∙ sym (first_append (straight_tests t s.n) rest))
