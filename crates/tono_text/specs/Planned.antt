-- What `tono_plan` returns and leaves: 0, or minus the refusal's number with the draws' place untouched.
use Rattle.std.specs.Prelude.{ℕ, ◌≡◌, List, ℤ, pos, neg_ℤ, Err, Ok, Result}
use Rattle.text_read.specs.declared.text.TextScore.{TextScore}
use Rattle.text_plan.specs.TextPlan.{text_plan}

abbrev pub plan_return : Result (TextScore × ℕ) ℕ → ℤ
plan_return (Ok (score, total)) = pos 0
plan_return (Err number) = neg_ℤ (pos number)

-- d is what the place held before
abbrev pub draws_left : ℕ → Result (TextScore × ℕ) ℕ → ℕ
draws_left d (Ok (score, total)) = total
draws_left d (Err number) = d

pub record PlanReturned (score : List ℕ) (draws₀ : ℕ) (said : ℤ) (draws : ℕ) : Type 0 where
  pub answer : said ≡ plan_return (text_plan score)
  pub place : draws ≡ draws_left draws₀ (text_plan score)
