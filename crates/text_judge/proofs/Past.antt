-- Use in a caller of `judge_text`: what its answer says of the text. Assumes nothing.
use Prim.Native.Nat.{ℕ, zero, suc, ◌*◌, ◌≤◌, ◌<◌}
use mathlib.Core.Path.{◌≡◌, refl, sym, ap, ◌∙◌}
use mathlib.Core.List.{List}
use native.Mathlib.Omega.{arith}
use borrow.Author.Tests.{le-ltb}
use lib.ListN.{length, take}
use Rattle.text_digits.specs.Read.{got}
use Rattle.text_read.specs.Notes.{count_of, words_after}
use Rattle.text_read.specs.Text.{Text, seq_of, seq_in, text_of, text_score_of}
use Rattle.text_read.specs.declared.text.TextScore.{TextScore}
use Rattle.text_read.proofs.Said.{Said, said_words}
use Rattle.text_judge.specs.Call.{call_of}
use Rattle.text_judge.specs.Refusal.{text_refusal, unless_refused}
use Rattle.text_judge.specs.Judged.{judged_read, judged, words_left, Judges}
use Rattle.std.specs.Prelude.{Result, Ok, Err}
use Rattle.text_judge.proofs.Refused.{Unrefused, unrefused_read}
use Rattle.text_judge.proofs.Unless.{number_refuses}

-- "A text score past 15 and 16": x is what the text says, and the words of its notes stand in the lent slice.
pub record Past (text : List ℕ) (x : TextScore) (words : List ℕ) : Type 0 where
  pub said : Text
  pub rest : List ℕ
  pub is : text_of text ≡ got said rest
  pub none : text_refusal text ≡ 0
  pub score : x ≡ text_score_of said
  pub notes : take (x.count * 5) words ≡ said.notes
  pub frames : x.numbers.n ≤ 2048
  pub few : x.count ≤ 256

-- ---- a score
unrefused_by : (n : ℕ) (r : Result TextScore ℕ) {x : TextScore} → Ok x ≡ unless_refused Err n r → (n ≡ 0) × (Ok x ≡ r)
unrefused_by zero r e = (refl, e)
unrefused_by (suc n) r e = (cc, cc)

module _ (text words₀ : List ℕ) (room : 1280 ≤ length words₀) where
  pub past_from : {words : List ℕ} {x : TextScore} → text_refusal text ≡ 0 → (u : Unrefused text) → x ≡ text_score_of u.said → words ≡ words_left text words₀ → Past text x words
  unfolding words_left
  past_from {words} {x} none u e stored =
      let t = u.said in
      let kept : words ≡ words_after (got t.notes u.rest) words₀ = rw (le-ltb 65536 (length text) u.bytes, u.is) at stored in
      let said : Said x (text_of text) words₀ words = record { text = t; rest = u.rest; is = u.is; score = e; stored = kept } in
      let long : x.numbers.n ≡ t.numbers.n = ap (λ (y : TextScore). y.numbers.n) e in
      let many : x.count ≡ count_of t.notes = ap (λ (y : TextScore). y.count) e in
      let fits : x.count * 5 ≤ length words₀ = omega (arith, many, u.notes) in
      record {
        said = t;
        rest = u.rest;
        is = u.is;
        none = none;
        score = e;
        notes = said_words text said fits;
        frames = omega (arith, long, u.frames);
        few = omega (arith, many, u.notes);
      }

  pub judged_past : {r : Result TextScore ℕ} {words : List ℕ} {x : TextScore} → Judges text words₀ r words → r ≡ Ok x → Past text x words
  unfolding judged
  judged_past {r} {words} {x} h is =
      let by = unrefused_by (text_refusal text) (judged_read (text_of text)) (sym is ∙ h.answer) in
      let u = unrefused_read text by.0 in
      let same : Ok x ≡ Ok (text_score_of u.said) = rw u.is at by.1 in
      let score : x ≡ text_score_of u.said = cc in
      past_from by.0 u score h.stored

-- ---- a refusal
module _ {text words₀ words : List ℕ} {r : Result TextScore ℕ} (h : Judges text words₀ r words) where
  -- its number is the text's, and not 0
  pub judged_number : {n : ℕ} → r ≡ Err n → (n ≡ text_refusal text) × (0 < n)
  unfolding judged
  judged_number {n} is = by (text_refusal text) refl (sym is ∙ h.answer)
    where
      by : (k : ℕ) → text_refusal text ≡ k → Err n ≡ unless_refused Err k (judged_read (text_of text)) → (n ≡ k) × (0 < n)
      by zero none e =
          let u = unrefused_read text none in
          let not : Err n ≡ Ok (text_score_of u.said) = rw u.is at e in
          let z : ◌≡◌ {A = ℕ} 0 1 = cc in
          absurd (omega arith)
      by (suc k) some e = let z : n ≡ suc k = cc in (z, omega arith)

  -- what a text comes to that it refuses
  pub judged_refused : {X : Type 0} (refused : ℕ → X) (x : X) {n : ℕ} → r ≡ Err n → refused n ≡ unless_refused refused (text_refusal text) x
  judged_refused refused x {n} is = let by = judged_number is in rw (← by.0) (number_refuses refused n x by.1)

-- ---- the score call of what was judged is that of what the text says
pub past_call : {text : List ℕ} {x : TextScore} {words : List ℕ} (p : Past text x words)
    → call_of (seq_of x.numbers x.env x.sound) (take (x.count * 5) words) x.numbers.n ≡ call_of (seq_in p.said) p.said.notes p.said.numbers.n
past_call p = λ j.
    let y = p.score j in
    call_of (seq_of y.numbers y.env y.sound) (p.notes j) y.numbers.n
