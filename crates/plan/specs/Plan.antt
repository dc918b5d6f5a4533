-- The planning call: "The planning screen lists notes by start frame, ties by list place, and adds draws as it goes down".
use Rattle.std.specs.Prelude.{ℕ, ◌+◌, ◌-◌, ◌^◌, ◌≡◌, List, [], ◌∷◌, map, cond, ltb, eqb, Float, Ok, Err}
use Rattle.laws.specs.Listed.{listed}
use Rattle.dsl.specs.Note.{of_note}
use Rattle.outcome.specs.Answer.{number_of}
use Rattle.outcome.specs.First.{Test, ◌⇒◌, first_of, or_else, first_refusal}
use Rattle.outcome.specs.Outcome.{Outcome}
use Rattle.outcome.specs.declared.answer.Refusal.TheVariants.{NoStation, Draws}
use Rattle.outcome.specs.Outcome.{Verdict}
use Rattle.score.specs.Score.{Score, note_in, note_count, notes_in, place, note_draws, sum}
use Rattle.score.specs.Refusals.{call_tests, note_refusal}
use Rattle.score.specs.declared.seq.Seq.{Seq}
use Rattle.session.specs.Opened.{count_in}
use Rattle.session.specs.declared.session.Session.{Session}
use Rattle.plan.specs.Order.{sorted}
use Rattle.plan.specs.declared.call.Plan.{Plan}

-- "a score call's session and input, n as a number and no buffers"
abbrev pub unlent : Seq → List ℕ → List Float → ℕ → Score
unlent seq notes lane n = record { seq = seq; notes = notes; lane = lane; n = n; room = 0; string = 0 }

module _ (s : Score) where
  -- the start frame of the note at place k; words that are no note are refused before 22
  abbrev pub start_at : ℕ → ℕ
  start_at k = of_note 0 (λ m. (place s m).start) (note_in s k)

  -- the list places as the screen lists them, skipped notes too: they add 0
  abbrev pub screen_list : List ℕ
  screen_list = sorted start_at (listed (λ k. k) (note_count s))

  -- the draws of the note at place k
  abbrev pub draws_at : ℕ → ℕ
  draws_at k = note_draws s (note_in s k)

  -- "Its contract adds down the list so sorted, each note once."
  unfoldable pub planned_draws : ℕ
  planned_draws = sum (map draws_at screen_list)

-- the tests of a list but those of two refusals, by number
unfoldable pub but_for : ℕ → ℕ → List Test → List Test
but_for a b [] = []
but_for a b (t ∷ ts) = cond (eqb (number_of t.refusal) a) (but_for a b ts) (cond (eqb (number_of t.refusal) b) (but_for a b ts) (t ∷ but_for a b ts))

-- "It is refused as the score call is but for 20 and 21": the score call's own list of tests without these two
abbrev pub plan_tests : Score → List Test
plan_tests s = but_for 20 21 (call_tests s)

-- then note by note, as in the score call: all but 22
unfoldable pub plan_refusal : Score → Verdict
plan_refusal s = or_else (first_of (plan_tests s)) (first_refusal (map (note_refusal s) (notes_in s)))

-- 22, of the screen's sum
unfoldable pub plan_refusal_at : Score → ℕ → Verdict
plan_refusal_at s d = or_else (plan_refusal s) (first_of ((ltb (2 ^ 64 - 1) (d + planned_draws s) ⇒ Draws) ∷ []))

abbrev pub outcome_of : Verdict → ℕ → Outcome
outcome_of (Ok _) draws = Ok draws
outcome_of (Err r) draws = Err r

-- "else reports the total": what a planning call comes to at the count d
unfoldable pub planned_at : Score → ℕ → Outcome
planned_at s d = outcome_of (plan_refusal_at s d) (planned_draws s)

-- on station k of the session a: 33 comes first, and 22 looks at that station's count
unfoldable pub plan_on : Session → ℕ → Score → Outcome
plan_on a k s = cond (ltb 7 k) (Err NoStation) (planned_at s (count_in a k))

-- The contract of a planning call on station k of the session a: it "leaves the session as it was".
pub record Planned (a : Session) (k : ℕ) (s : Score) (r : Plan) : Type 0 where
  pub outcome : r.outcome ≡ plan_on a k s
  pub session : r.session ≡ a
