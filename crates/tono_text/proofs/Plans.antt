-- The numbers that C gets of a plan. Assumes nothing.
use mathlib.Core.Path.{◌≡◌, sym, ap, ◌∙◌}
use mathlib.Core.List.{List}
use Prim.Native.Nat.{ℕ}
use lib.IntN.{ℤ, pos, neg_ℤ}
use Rattle.text_plan.specs.TextPlan.{Told}
use Rattle.std.specs.Prelude.{Err, Ok, Result}
use Rattle.text_read.specs.declared.text.TextScore.{TextScore}
use Rattle.tono_text.specs.Planned.{plan_return, draws_left, PlanReturned}

-- a plan's answer, and the place of its draws
module _ {score words₀ words : List ℕ} {said : Result (TextScore × ℕ) ℕ} (h : Told score words₀ said words) {draws₀ : ℕ} where
  returned_plan : (told : Result (TextScore × ℕ) ℕ) → said ≡ told → {z : ℤ} {draws : ℕ} → z ≡ plan_return told → draws ≡ draws_left draws₀ told → PlanReturned score draws₀ z draws
  returned_plan told is e d = record { answer = e ∙ ap plan_return (sym is ∙ h.answer); place = d ∙ ap (draws_left draws₀) (sym is ∙ h.answer) }

  pub total_returned : {x : TextScore} {total : ℕ} → said ≡ Ok (x, total) → {z : ℤ} {draws : ℕ} → z ≡ pos 0 → draws ≡ total → PlanReturned score draws₀ z draws
  total_returned is e d = returned_plan (Ok _) is e d

  pub number_returned : {number : ℕ} → said ≡ Err number → {z : ℤ} {draws : ℕ} → z ≡ neg_ℤ (pos number) → draws ≡ draws₀ → PlanReturned score draws₀ z draws
  number_returned is e d = returned_plan (Err _) is e d
