-- The plan of a text and its listing: a text is refused with the number of the R line that `play` prints, and else its G line ends as many draws on as were planned. Assumes nothing.
use Prim.Native.Nat.{ℕ, zero, suc, ◌+◌, ◌≤◌}
use mathlib.Core.Path.{◌≡◌, refl, sym, ap, ◌∙◌}
use mathlib.Core.List.{List, [], ◌∷◌}
use native.Mathlib.Omega.{arith}
use Rattle.rng.specs.SplitMix64.{state_after}
use Rattle.outcome.specs.Answer.{number_of, accepted, unless}
use Rattle.outcome.specs.Outcome.{Outcome}
use Rattle.outcome.specs.declared.answer.Refusal.{Refusal}
use Rattle.outcome.specs.Outcome.{Verdict}
use Rattle.std.specs.Prelude.{Ok, Err, Result}
use Rattle.score.specs.Score.{Score, score_draws}
use Rattle.score.specs.Refusals.{refusal_at}
use Rattle.score_contract.specs.Frames.{score_frames}
use Rattle.session.specs.Opened.{session_at}
use Rattle.plan.specs.Plan.{planned_draws, plan_refusal_at, outcome_of, planned_at, plan_on}
use Rattle.plan.proofs.Refused.{refused_alike_at}
use Rattle.tally.specs.Tally.{Taken, all_taken, tallied, new_draw, tally}
use Rattle.tally.proofs.AllCalls.{taken_whole}
use Rattle.text_read.specs.Text.{seq_in, text_of, text_score_of}
use Rattle.text_read.specs.declared.text.TextScore.{TextScore}
use Rattle.text_listing.specs.Lines.{listing_of, printed_r}
use Rattle.text_judge.specs.Call.{call_of}
use Rattle.text_judge.specs.Refusal.{text_refusal, unless_refused}
use Rattle.text_judge.proofs.Refused.{Unrefused, unrefused_read}
use Rattle.text.specs.Listing.{shown, shown_one, listing}
use Rattle.text.proofs.Refused.{refused_line, past_line}
use Rattle.text_plan.specs.TextPlan.{plan_said, plan_of_text, plan_read, text_plan}
use Rattle.text_plan.proofs.Ready.{Ready}

-- ---- what the one call of a text shows
module _ (seed d : ℕ) (s : Score) where
  shown_refused : (r : Refusal) → refusal_at s d ≡ Err r → shown seed (tally seed d (s ∷ [])) ≡ printed_r (number_of r)
  unfolding tally tallied
  shown_refused r e = ap (λ (v : Verdict).
      let one = unless v (accepted (score_draws s) (all_taken seed s d).frames) in
      shown_one seed (new_draw one d (all_taken seed s d).x) (one ∷ [])) e

  shown_played : refusal_at s d ≡ Ok tt → shown seed (tally seed d (s ∷ [])) ≡ listing_of (state_after seed (d + score_draws s)) (d + score_draws s) (score_frames s seed d)
  unfolding tally tallied
  shown_played e =
      ap (λ (v : Verdict).
      let one = unless v (accepted (score_draws s) (all_taken seed s d).frames) in
      shown_one seed (new_draw one d (all_taken seed s d).x) (one ∷ [])) e
      ∙ ap (λ (t : Taken). listing_of (state_after seed t.x) t.x t.frames) (taken_whole seed d s e)

-- ---- a refused plan
refused_by : (x : TextScore) (o : Outcome) {n : ℕ} → plan_said x o ≡ Err n → (r : Refusal) → o ≡ Err r → n ≡ number_of r
refused_by x o {n} e r is = let both : Err n ≡ Err (number_of r) = sym e ∙ ap (plan_said x) is in cc

pub record RefusedBy (o : Outcome) (n : ℕ) : Type 0 where
  pub why : Refusal
  pub is : o ≡ Err why
  pub number : n ≡ number_of why

said_refused : (x : TextScore) (o : Outcome) {n : ℕ} → plan_said x o ≡ Err n → RefusedBy o n
said_refused x (Ok d) e = absurd (let z : ◌≡◌ {A = ℕ} 0 1 = cc in omega arith)
said_refused x (Err r) e = record { why = r; is = refl; number = refused_by x (Err r) e r refl }

verdict_by : (v : Verdict) (t : ℕ) (r : Refusal) → outcome_of v t ≡ Err r → v ≡ Err r
verdict_by (Ok _) t r e = cc
verdict_by (Err x) t r e = let same : x ≡ r = cc in ap Err same

refused_at : (s : Score) → s.n ≤ s.room → 9600 ≤ s.string → (seed d : ℕ) (r : Refusal) → plan_on (session_at seed d) 0 s ≡ Err r → refusal_at s d ≡ Err r
unfolding plan_on planned_at
refused_at s room string seed d r e = sym (refused_alike_at s room string d) ∙ verdict_by (plan_refusal_at s d) (planned_draws s) r e

number_by : (n k : ℕ) (p : Result (TextScore × ℕ) ℕ) → unless_refused Err (suc k) p ≡ Err n → suc k ≡ n
number_by n k p e = cc

module _ (text : List ℕ) where
  -- past 16, 15 and 16
  listed_past : (n : ℕ) → text_refusal text ≡ 0 → (u : Unrefused text) → plan_of_text u.said ≡ Err n → listing text ≡ printed_r n
  unfolding plan_of_text
  listed_past n none u e =
      let t = u.said in
      let s = call_of (seq_in t) t.notes t.numbers.n in
      let by = said_refused (text_score_of t) (plan_on (session_at t.seed t.draw) 0 s) e in
      let room : t.numbers.n ≤ 2048 = u.frames in
      let string : 9600 ≤ 9600 = omega arith in
      past_line text none u.is ∙ shown_refused t.seed t.draw s by.why (refused_at s room string t.seed t.draw by.why by.is) ∙ ap printed_r (sym by.number)

  -- THE THEOREM: a plan is refused with the number of the R line
  pub refused_listing : (n : ℕ) → text_plan text ≡ Err n → listing text ≡ printed_r n
  unfolding text_plan
  refused_listing n e = by (text_refusal text) refl e
    where
      by : (k : ℕ) → text_refusal text ≡ k → unless_refused Err k (plan_read (text_of text)) ≡ Err n → listing text ≡ printed_r n
      by zero none e = let u = unrefused_read text none in listed_past n none u (rw u.is at e)
      by (suc k) is e = refused_line text k is ∙ ap printed_r (number_by n k (plan_read (text_of text)) e)

-- THE THEOREM: a planned text is played, and its G line ends `draws` draws after its own
pub planned_listing : {text : List ℕ} {x : TextScore} {draws : ℕ} {words : List ℕ} (r : Ready text x draws words)
    → listing text ≡ listing_of (state_after x.seed (x.draw + draws)) (x.draw + draws)
    (score_frames (call_of (seq_in r.past.said) r.past.said.notes r.past.said.numbers.n) x.seed x.draw)
planned_listing {text} {x} {draws} r =
    let t = r.past.said in
    let s = call_of (seq_in t) t.notes t.numbers.n in
    past_line text r.past.none r.past.is ∙ shown_played t.seed t.draw s r.fine
    ∙ (λ j.
    let y = sym r.past.score j in
    let end = y.draw + sym r.total j in
    listing_of (state_after y.seed end) end (score_frames s y.seed y.draw))
