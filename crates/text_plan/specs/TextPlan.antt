-- The plan of a text score: its total of draws, by the planning call, or the number that refuses it, 20 and 21 never.
use Rattle.std.specs.Prelude.{ℕ, ◌≡◌, List, Ok, Err, Result}
use Rattle.outcome.specs.Answer.{number_of}
use Rattle.outcome.specs.Outcome.{Outcome}
use Rattle.session.specs.Opened.{session_at}
use Rattle.plan.specs.Plan.{plan_on}
use Rattle.text_digits.specs.Read.{Read, got, broken}
use Rattle.text_read.specs.Text.{Text, seq_in, text_of, text_score_of}
use Rattle.text_read.specs.declared.text.TextScore.{TextScore}
use Rattle.text_judge.specs.Call.{call_of}
use Rattle.text_judge.specs.Refusal.{text_refusal, unless_refused}
use Rattle.text_judge.specs.Judged.{words_left}

-- a planning call's outcome, of the score x
abbrev pub plan_said : TextScore → Outcome → Result (TextScore × ℕ) ℕ
plan_said x (Ok draws) = Ok (x, draws)
plan_said x (Err r) = Err (number_of r)

-- the planning call of what a text says, on station 0 of the session that its G line opens
unfoldable pub plan_of_text : Text → Result (TextScore × ℕ) ℕ
plan_of_text t = plan_said (text_score_of t) (plan_on (session_at t.seed t.draw) 0 (call_of (seq_in t) t.notes t.numbers.n))

-- of what was read; a broken text's refusal is never 0
abbrev pub plan_read : Read Text → Result (TextScore × ℕ) ℕ
plan_read broken = Err 15
plan_read (got t rest) = plan_of_text t

-- "text only, before all others: 16 .. 15 .. 16", as for a text that is played
unfoldable pub text_plan : List ℕ → Result (TextScore × ℕ) ℕ
text_plan text = unless_refused Err (text_refusal text) (plan_read (text_of text))

-- The contract of a planner of texts that is lent `words₀` and leaves `words`.
pub record Told (text words₀ : List ℕ) (r : Result (TextScore × ℕ) ℕ) (words : List ℕ) : Type 0 where
  pub answer : r ≡ text_plan text
  pub stored : words ≡ words_left text words₀
