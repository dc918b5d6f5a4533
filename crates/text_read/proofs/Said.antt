-- Use in a caller of the reader: what its answer says of the text. Assumes nothing.
use Prim.Native.Nat.{ℕ, ◌*◌, ◌≤◌}
use mathlib.Core.Path.{◌≡◌, refl, sym, ap, ◌∙◌}
use mathlib.Core.List.{List}
use native.Mathlib.Omega.{arith}
use borrow.Author.Tests.{le-ltb}
use lib.ListN.{length, take, drop}
use lib.Seq.{take_at}
use Rattle.std.specs.Prelude.{Option, Some, None}
use Rattle.text_digits.specs.Read.{Read, got, broken}
use Rattle.text_lines.specs.Line.{stored_in, line_s, line_g, line_e}
use Rattle.text_lines.proofs.Forms.{parted, got_value}
use Rattle.text_voice_line.specs.Voice.{line_v}
use Rattle.text_read.specs.Notes.{notes_of, count_of, words_after}
use Rattle.text_read.proofs.Fives.{notes_five}
use Rattle.text_read.specs.Text.{Text, text_of, text_score_of, parsed_of, notes_read, Parses}
use Rattle.text_read.specs.declared.text.TextScore.{TextScore}

-- the text that was read, which the score x is of
pub record Said (x : TextScore) (read : Read Text) (words₀ words : List ℕ) : Type 0 where
  pub text : Text
  pub rest : List ℕ
  pub is : read ≡ got text rest
  pub score : x ≡ text_score_of text
  pub stored : words ≡ words_after (got text.notes rest) words₀

said : (read : Read Text) (words₀ words : List ℕ) {x : TextScore} → Some x ≡ parsed_of read → words ≡ words_after (notes_read read) words₀ → Said x read words₀ words
said (got t rest) words₀ words {x} e h = record { text = t; rest = rest; is = refl; score = cc; stored = h }
said broken words₀ words {x} e h = let z : ◌≡◌ {A = ℕ} 0 1 = cc in absurd (omega arith)

broke : (read : Read Text) → None ≡ parsed_of read → read ≡ broken
broke (got t rest) e = let z : ◌≡◌ {A = ℕ} 0 1 = cc in absurd (omega arith)
broke broken e = refl

module _ {text words₀ words : List ℕ} {r : Option TextScore} (h : Parses text words₀ r words) where
  pub parsed_broken : r ≡ None → text_of text ≡ broken
  parsed_broken told = broke (text_of text) (rw told at h.answer)

  pub parsed_score : {x : TextScore} → r ≡ Some x → Said x (text_of text) words₀ words
  parsed_score told = said (text_of text) words₀ words (rw told at h.answer) h.words

five_of : (text : List ℕ) {t : Text} {rest : List ℕ} → text_of text ≡ got t rest → length t.notes ≡ count_of t.notes * 5
unfolding text_of
five_of text {t} {rest} e =
    let a = parted (line_s text) _ e in
    let g = parted (line_g a.rest) _ a.second in
    let env = parted (line_e g.rest) _ g.second in
    let v = parted (line_v env.rest) _ env.second in
    let n = parted (notes_of v.rest) _ v.second in
    let same : n.value ≡ t.notes = ap (λ (y : Text). y.notes) (got_value n.second) in
    rw same at (notes_five v.rest n.first)

module _ {x : TextScore} (text : List ℕ) {words₀ words : List ℕ} (h : Said x (text_of text) words₀ words) where
  -- five words a note
  said_five : length h.text.notes ≡ x.count * 5
  said_five = five_of text h.is ∙ ap (λ (n : ℕ). n * 5) (sym (ap (λ (y : TextScore). y.count) h.score))

  -- the words of the notes, where they fit
  pub said_words : x.count * 5 ≤ length words₀ → take (x.count * 5) words ≡ h.text.notes
  said_words l =
      let n = h.text.notes in
      let m : length n ≤ length words₀ = omega (arith, said_five) in
      let all : words ≡ stored_in n words₀ = rw (le-ltb (length words₀) (length n) m) at h.stored in
      rw all (take_at n (drop (length n) words₀) (x.count * 5) said_five)
