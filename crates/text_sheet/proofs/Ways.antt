-- The ways in which printing a sheet ends. Assumes nothing.
use Prim.Native.Nat.{ℕ, zero, suc, ◌*◌, ◌≤◌, ◌<◌}
use mathlib.Core.Path.{◌≡◌, refl, sym, ap, ◌∙◌}
use mathlib.Core.List.{List}
use native.Mathlib.Omega.{arith}
use native.Mathlib.Nat.{zero-add}
use borrow.Author.Tests.{lt-ltb, le-ltb}
use lib.ListN.{length, take, length-take}
use Rattle.outcome.specs.Outcome.{Verdict}
use Rattle.std.specs.Prelude.{Ok, Err, Result}
use Rattle.score.specs.Score.{Score, note_count}
use Rattle.score.specs.Refusals.{refusal_at}
use Rattle.plan.specs.Plan.{planned_draws, plan_refusal_at, outcome_of, planned_at, plan_on}
use Rattle.plan.proofs.Refused.{refused_alike_at}
use Rattle.text_read.specs.Text.{Text, seq_of, seq_in, text_of, text_score_of}
use Rattle.text_read.specs.declared.text.TextScore.{TextScore}
use Rattle.text_judge.specs.Call.{call_of}
use Rattle.text_judge.specs.Refusal.{text_refusal, unless_refused}
use Rattle.text_judge.proofs.Refused.{unrefused_read}
use Rattle.text_judge.proofs.Past.{past_call}
use Rattle.text_plan.specs.TextPlan.{plan_said, plan_of_text, plan_read, text_plan, Told}
use Rattle.text_plan.proofs.Ready.{Ready, planned_ready}
use Rattle.text_listing.specs.Printed.{put}
use Rattle.text_listing.specs.Printed as put
use Rattle.cue_pages.specs.Sheet.{sheet_of, sheet_length}
use Rattle.cue_pages.proofs.Long.{sheet_is_long}
use Rattle.text_sheet.specs.TextSheet.{SheetResult, refused, sheet_fitting, sheet_unless, score_sheet, sheet_read, text_sheet, SheetPrinted}

pub printed_as : {p q : SheetResult} {page₀ page : List ℕ} {said : Result ℕ ℕ} → p ≡ q → SheetPrinted p page₀ said page → SheetPrinted q page₀ said page
printed_as e h = rw e at h

pub printed_not : {q : SheetResult} {page₀ : List ℕ} (n : ℕ) → refused n ≡ q → SheetPrinted q page₀ (Err n) page₀
printed_not n e = printed_as e (record { answer = refl; bytes = refl })

-- ---- the page
module _ (sheet : List ℕ) {page₀ : List ℕ} where
  pub too_short : length page₀ < length sheet → SheetPrinted (sheet_fitting (length page₀) sheet) page₀ (Err 34) page₀
  too_short h = printed_not 34 (rw (lt-ltb (length page₀) (length sheet) h))

  pub long_enough : length sheet ≤ length page₀ → {n : ℕ} {page : List ℕ} → put.Printed sheet 0 page₀ n page → SheetPrinted (sheet_fitting (length page₀) sheet) page₀ (Ok n) page
  unfolding put
  long_enough h {n} {page} p =
      let e : n ≡ length sheet = p.after ∙ omega arith in
      rw (le-ltb (length page₀) (length sheet) h) (record { answer = ap Ok e; bytes = p.bytes ∙ rw zero-add refl })

-- ---- the sheet of an accepted score, on a page that is judged by the sheet's length
module _ (s : Score) (d : ℕ) (fine : refusal_at s d ≡ Ok tt) (few : note_count s ≤ 256) {n : ℕ} (long : n ≡ sheet_length (note_count s)) where
  sheet_is : length (sheet_of s d) ≡ n
  sheet_is = sheet_is_long s d fine (omega arith) ∙ sym long

  pub score_short : {page₀ : List ℕ} → length page₀ < n → SheetPrinted (sheet_fitting (length page₀) (sheet_of s d)) page₀ (Err 34) page₀
  score_short h = too_short (sheet_of s d) (omega (arith, sheet_is))

  module _ {page₀ : List ℕ} (h : n ≤ length page₀) where
    pub score_room : put.Room (sheet_of s d) 0 page₀
    score_room = record { fits = omega (arith, sheet_is) }

    pub score_printed : {k : ℕ} {page : List ℕ} → put.Printed (sheet_of s d) 0 page₀ k page → SheetPrinted (sheet_fitting (length page₀) (sheet_of s d)) page₀ (Ok k) page
    score_printed = long_enough (sheet_of s d) (omega (arith, sheet_is))

-- ---- a text that is refused
refused_by : (v : Verdict) (x : TextScore) (total : ℕ) (q : SheetResult) {n : ℕ} → Err n ≡ plan_said x (outcome_of v total) → refused n ≡ sheet_unless v q
refused_by (Ok _) x total q e = cc
refused_by (Err r) x total q e = cc

either : (k : ℕ) (r : Result (TextScore × ℕ) ℕ) (q : SheetResult) {n : ℕ} → Err n ≡ unless_refused Err k r → (k ≡ 0 → Err n ≡ r → refused n ≡ q)
    → refused n ≡ unless_refused refused k q
either zero r q e f = f refl e
either (suc k) r q e f = cc

module _ (room : ℕ) where
  score_refused : (t : Text) → t.numbers.n ≤ 2048 → {n : ℕ} → Err n ≡ plan_of_text t → refused n ≡ score_sheet room (call_of (seq_in t) t.notes t.numbers.n) t.draw
  unfolding plan_of_text plan_on planned_at score_sheet
  score_refused t frames e =
      let s = call_of (seq_in t) t.notes t.numbers.n in
      let string : 9600 ≤ 9600 = omega arith in
      rw (← refused_alike_at s frames string t.draw) (refused_by (plan_refusal_at s t.draw) (text_score_of t) (planned_draws s) _ e)

  module _ {text words₀ words : List ℕ} {r : Result (TextScore × ℕ) ℕ} (told : Told text words₀ r words) where
    pub text_refused : {n : ℕ} → r ≡ Err n → refused n ≡ text_sheet text room
    unfolding text_sheet text_plan
    text_refused is =
        either (text_refusal text) (plan_read (text_of text)) (sheet_read room (text_of text)) (sym is ∙ told.answer) (λ none e.
        let u = unrefused_read text none in
        rw u.is (score_refused u.said u.frames (rw u.is at e)))

    -- ---- a text that is planned
    module _ (words-room : 1280 ≤ length words₀) {x : TextScore} {draws : ℕ} (is : r ≡ Ok (x, draws)) where
      ready : Ready text x draws words
      ready = planned_ready text words₀ words-room told is

      abbrev called : Score
      called = call_of (seq_of x.numbers x.env x.sound) (take (x.count * 5) words) x.numbers.n

      same_draw : x.draw ≡ ready.past.said.draw
      same_draw = ap (λ (y : TextScore). y.draw) ready.past.score

      pub call_accepted : refusal_at called x.draw ≡ Ok tt
      call_accepted = (λ j. refusal_at (past_call ready.past j) (same_draw j)) ∙ ready.fine

      pub words_few : x.count * 5 ≤ 1280
      words_few = omega (arith, ready.past.few)

      pub slice_few : length (take (x.count * 5) words) ≤ 1280
      slice_few = omega (arith, words_few, length-take (x.count * 5) words)

      pub text_planned : sheet_fitting room (sheet_of called x.draw) ≡ text_sheet text room
      unfolding text_sheet score_sheet
      text_planned = (λ j. sheet_fitting room (sheet_of (past_call ready.past j) (same_draw j))) ∙ rw (ready.past.none, ready.past.is, ready.fine) refl
