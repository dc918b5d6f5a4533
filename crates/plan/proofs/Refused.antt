-- How a planning call is refused: as the score call with buffers long enough. Assumes nothing.
use Prim.Native.Nat.{ℕ, ◌+◌, ◌-◌, ◌^◌, ◌≤◌}
use mathlib.Core.Path.{◌≡◌, refl, ap}
use mathlib.Core.List.{[], ◌∷◌, ◌++◌, map}
use borrow.Author.Tests.{le-ltb}
use lib.Dec.{ltb}
use Rattle.outcome.specs.First.{◌⇒◌, first_of, or_else, first_refusal}
use Rattle.outcome.specs.declared.answer.Refusal.TheVariants.{Draws}
use Rattle.outcome.specs.Outcome.{Verdict}
use Rattle.std.specs.Prelude.{Ok}
use Rattle.score.specs.Score.{Score, notes_in, draws_in, note_draws}
use Rattle.score.specs.Refusals.{number_tests, voice_tests, list_tests, call_tests, note_refusal, refusal, refusal_at}
use Rattle.score.proofs.Accepted.{accepted_score}
use Rattle.session.specs.declared.session.Session.{Session}
use Rattle.plan.specs.Plan.{unlent, but_for, plan_tests, planned_draws, plan_refusal, plan_refusal_at, planned_at, plan_on}
use Rattle.plan.proofs.Totals.{totals_equal}

-- the tests, written out: those of the score call but `lent_tests`
pub plan_tests_lem : (s : Score) → plan_tests s ≡ number_tests s.seq.timing s.n ++ (voice_tests s.seq ++ list_tests s)
unfolding but_for
plan_tests_lem s = refl

-- no test of a planning call looks at the buffers
pub unlent_same : (s : Score) → plan_refusal (unlent s.seq s.notes s.lane s.n) ≡ plan_refusal s
unfolding plan_refusal but_for note_refusal
unlent_same s = refl

-- the same input without buffers is planned alike
pub unlent_plan : (a : Session) (k : ℕ) (s : Score) → plan_on a k (unlent s.seq s.notes s.lane s.n) ≡ plan_on a k s
unfolding plan_on planned_at plan_refusal_at planned_draws plan_refusal but_for note_refusal note_draws draws_in
unlent_plan a k s = refl

module _ (s : Score) (room : s.n ≤ s.room) (string : 9600 ≤ s.string) where
  tests_same : first_of (plan_tests s) ≡ first_of (call_tests s)
  unfolding first_of but_for
  tests_same = rw (le-ltb s.room s.n room, le-ltb s.string 9600 string) refl

  -- with buffers long enough both calls are refused alike: before 22
  pub refused_alike : plan_refusal s ≡ refusal s
  unfolding plan_refusal refusal
  refused_alike = ap (λ (v : Verdict). or_else v (first_refusal (map (note_refusal s) (notes_in s)))) tests_same

  -- THE THEOREM: and on 22
  pub refused_alike_at : (d : ℕ) → plan_refusal_at s d ≡ refusal_at s d
  unfolding plan_refusal_at refusal_at
  refused_alike_at d = λ j. or_else (refused_alike j) (first_of ((ltb (2 ^ 64 - 1) (d + totals_equal s j) ⇒ Draws) ∷ []))

-- THE THEOREM: a list that passes the checks before 22 is refused with 22 by both or by neither
pub agree_on_22 : (s : Score) → refusal s ≡ Ok tt → (d : ℕ) → plan_refusal_at s d ≡ refusal_at s d
agree_on_22 s ok d = let fit = (accepted_score s ok).fit in refused_alike_at s fit.buffered fit.stringed d
