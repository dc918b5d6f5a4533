-- The ways in which planning a text ends. Assumes nothing.
use Rattle.std.specs.Prelude.{Ok, Err, Result}
use Prim.Native.Nat.{ℕ, ◌*◌, ◌≤◌}
use mathlib.Core.Path.{◌≡◌, sym, ap, ◌∙◌}
use mathlib.Core.List.{List, []}
use lib.ListN.{length, take}
use Rattle.outcome.specs.Answer.{number_of}
use Rattle.outcome.specs.Outcome.{Outcome}
use Rattle.outcome.specs.declared.answer.Refusal.{Refusal}
use Rattle.score.specs.declared.seq.Seq.{Seq}
use Rattle.session.specs.Opened.{session_at}
use Rattle.session.specs.declared.session.Session.{Session}
use Rattle.plan.specs.Plan.{unlent, plan_on, Planned}
use Rattle.plan.specs.declared.call.Plan.{Plan}
use Rattle.plan.proofs.Refused.{unlent_plan}
use Rattle.text_read.specs.Text.{seq_of, text_of}
use Rattle.text_read.specs.declared.text.TextScore.{TextScore}
use Rattle.text_judge.specs.Call.{call_of}
use Rattle.text_judge.specs.Judged.{Judges}
use Rattle.text_judge.proofs.Past.{judged_past, judged_refused, past_call}
use Rattle.text_plan.specs.TextPlan.{plan_said, plan_of_text, plan_read, text_plan, Told}

-- ---- the planning call that was made
module _ (x : TextScore) (ws : List ℕ) where
  abbrev called : Outcome
  called = plan_on (session_at x.seed x.draw) 0 (call_of (seq_of x.numbers x.env x.sound) ws x.numbers.n)

  module _ {a : Session} {q : Seq} {p : Plan}
      (opened : a ≡ session_at x.seed x.draw) (is : q ≡ seq_of x.numbers x.env x.sound) (planned : Planned a 0 (unlent q ws [] x.numbers.n) p) where
    outcome_is : p.outcome ≡ called
    outcome_is = planned.outcome ∙ (λ j. plan_on (opened j) 0 (unlent (is j) ws [] x.numbers.n)) ∙ unlent_plan _ 0 (call_of (seq_of x.numbers x.env x.sound) ws x.numbers.n)

    pub said_total : {draws : ℕ} → p.outcome ≡ Ok draws → Ok (x, draws) ≡ plan_said x called
    said_total e = ap (plan_said x) (sym e ∙ outcome_is)

    pub said_refused : {r : Refusal} → p.outcome ≡ Err r → {n : ℕ} → n ≡ number_of r → Err n ≡ plan_said x called
    said_refused e i = ap Err i ∙ ap (plan_said x) (sym e ∙ outcome_is)

-- ---- the text
module _ {text words₀ words : List ℕ} {r : Result TextScore ℕ} (h : Judges text words₀ r words) where
  pub told_refused : {n : ℕ} → r ≡ Err n → Told text words₀ (Err n) words
  unfolding text_plan
  told_refused is = record { answer = judged_refused h Err (plan_read (text_of text)) is; stored = h.stored }

  module _ (room : 1280 ≤ length words₀) {x : TextScore} (is : r ≡ Ok x) where
    -- the planning call of the words that were read
    pub told_planned : {p : Result (TextScore × ℕ) ℕ} → p ≡ plan_said x (called x (take (x.count * 5) words)) → Told text words₀ p words
    unfolding text_plan plan_of_text
    told_planned e =
        let q = judged_past text words₀ room h is in
        record {
          answer = e ∙ rw (q.none, q.is) (λ j. plan_said (q.score j) (plan_on (session_at (q.score j).seed (q.score j).draw) 0 (past_call q j)));
          stored = h.stored;
        }
