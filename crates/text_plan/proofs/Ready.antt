-- Use in a caller of `plan_text`: what a text is that was planned. Assumes nothing.
use Prim.Native.Nat.{ℕ, zero, suc, ◌≤◌}
use mathlib.Core.Path.{◌≡◌, refl, sym, ap, ◌∙◌}
use mathlib.Core.List.{List}
use native.Mathlib.Omega.{arith}
use lib.ListN.{length}
use Rattle.outcome.specs.Outcome.{Outcome, Verdict}
use Rattle.std.specs.Prelude.{Ok, Err, Result}
use Rattle.score.specs.Score.{Score, score_draws}
use Rattle.score.specs.Refusals.{refusal_at}
use Rattle.session.specs.Opened.{session_at}
use Rattle.plan.specs.Plan.{planned_draws, plan_refusal_at, outcome_of, planned_at, plan_on}
use Rattle.plan.proofs.Refused.{refused_alike_at}
use Rattle.plan.proofs.Totals.{totals_equal}
use Rattle.text_read.specs.Text.{Text, seq_in, text_of, text_score_of}
use Rattle.text_read.specs.declared.text.TextScore.{TextScore}
use Rattle.text_judge.specs.Call.{call_of}
use Rattle.text_judge.specs.Refusal.{text_refusal, unless_refused}
use Rattle.text_judge.proofs.Refused.{unrefused_read}
use Rattle.text_judge.proofs.Past.{Past, past_from}
use Rattle.text_plan.specs.TextPlan.{plan_said, plan_of_text, plan_read, text_plan, Told}

-- The score x was planned with so many draws, and its words stand in the lent slice: its score call, with a note buffer of 2,048 values and a string buffer of 9,600, is accepted.
pub record Ready (text : List ℕ) (x : TextScore) (draws : ℕ) (words : List ℕ) : Type 0 where
  pub past : Past text x words
  pub fine : refusal_at (call_of (seq_in past.said) past.said.notes past.said.numbers.n) past.said.draw ≡ Ok tt
  pub total : draws ≡ score_draws (call_of (seq_in past.said) past.said.notes past.said.numbers.n)

-- a text that is planned is not refused by a number
unrefused : (n : ℕ) (r : Result (TextScore × ℕ) ℕ) {x : TextScore} {draws : ℕ} → Ok (x, draws) ≡ unless_refused Err n r → (n ≡ 0) × (Ok (x, draws) ≡ r)
unrefused zero r e = (refl, e)
unrefused (suc n) r e = (cc, cc)

planned_by : (y : TextScore) (o : Outcome) {x : TextScore} {draws : ℕ} → Ok (x, draws) ≡ plan_said y o → (x ≡ y) × (Ok draws ≡ o)
planned_by y (Ok d) {x} {draws} e = let p : (x, draws) ≡ (y, d) = cc in (ap (λ (q : TextScore × ℕ). q.0) p, ap (λ (q : TextScore × ℕ). Ok q.1) p)
planned_by y (Err r) e = (cc, cc)

played_by : (v : Verdict) (t : ℕ) {draws : ℕ} → Ok draws ≡ outcome_of v t → (v ≡ Ok tt) × (draws ≡ t)
played_by (Ok _) t e = (refl, cc)
played_by (Err r) t e = (cc, cc)

-- what an accepted planning call says of the score call
accepted_by_lem : (s : Score) → s.n ≤ s.room → 9600 ≤ s.string → (seed d draws : ℕ) → Ok draws ≡ plan_on (session_at seed d) 0 s → (refusal_at s d ≡ Ok tt) × (draws ≡ score_draws s)
unfolding plan_on planned_at
accepted_by_lem s room string seed d draws e =
    let by = played_by (plan_refusal_at s d) (planned_draws s) e in
    (sym (refused_alike_at s room string d) ∙ by.0, by.1 ∙ totals_equal s)

ready_from : {text : List ℕ} {x : TextScore} {draws : ℕ} {words : List ℕ} (p : Past text x words) → Ok (x, draws) ≡ plan_of_text p.said → Ready text x draws words
unfolding plan_of_text
ready_from {text} {x} {draws} p e =
    let t = p.said in
    let s = call_of (seq_in t) t.notes t.numbers.n in
    let long : x.numbers.n ≡ t.numbers.n = ap (λ (y : TextScore). y.numbers.n) p.score in
    let buffer : t.numbers.n ≤ 2048 = omega (arith, p.frames, long) in
    let whole : 9600 ≤ 9600 = omega arith in
    let ok = accepted_by_lem s buffer whole t.seed t.draw draws (planned_by (text_score_of t) (plan_on (session_at t.seed t.draw) 0 s) e).1 in
    record { past = p; fine = ok.0; total = ok.1 }

score_is : {x : TextScore} {draws : ℕ} (t : Text) → Ok (x, draws) ≡ plan_of_text t → x ≡ text_score_of t
unfolding plan_of_text
score_is t e = (planned_by (text_score_of t) (plan_on (session_at t.seed t.draw) 0 (call_of (seq_in t) t.notes t.numbers.n)) e).0

module _ (text words₀ : List ℕ) (room : 1280 ≤ length words₀) where
  pub planned_ready : {r : Result (TextScore × ℕ) ℕ} {words : List ℕ} {x : TextScore} {draws : ℕ} → Told text words₀ r words → r ≡ Ok (x, draws) → Ready text x draws words
  unfolding text_plan
  planned_ready told is =
      let by = unrefused (text_refusal text) (plan_read (text_of text)) (sym is ∙ told.answer) in
      let u = unrefused_read text by.0 in
      let p = past_from text words₀ room by.0 u (score_is u.said (rw u.is at by.1)) told.stored in
      ready_from p (rw p.is at by.1)
