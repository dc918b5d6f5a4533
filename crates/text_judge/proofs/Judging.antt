-- The ways in which judging a text ends. Assumes nothing.
use Prim.Native.Nat.{ℕ, ◌≤◌, ◌<◌}
use mathlib.Core.Path.{◌≡◌, refl, ap}
use mathlib.Core.List.{List}
use native.Mathlib.Omega.{arith}
use borrow.Author.Tests.{lt-ltb, le-ltb}
use lib.ListN.{length}
use Rattle.laws.proofs.If.{if_true, if_false}
use Rattle.text_read.specs.Text.{text_of, Parses}
use Rattle.text_read.specs.declared.text.TextScore.{TextScore}
use Rattle.text_read.proofs.Said.{Said, parsed_broken, parsed_score}
use Rattle.text_judge.specs.Refusal.{text_refusal}
use Rattle.text_judge.specs.Judged.{judged_read, judged, words_left, Judges}
use Rattle.std.specs.Prelude.{Err, Ok, Option, Some, None}
use Rattle.text_judge.proofs.Refused.{refusal_long}
use Rattle.text_judge.proofs.JudgedText.{judged_broken, judged_frames, judged_notes, judged_none}
use Rattle.text_judge.proofs.Unless.{number_refuses}

module _ (text words₀ : List ℕ) where
  refused_text : (n : ℕ) → 0 < n → n ≡ text_refusal text → Err n ≡ judged text
  unfolding judged
  refused_text n h e = rw (← e) (number_refuses Err n (judged_read (text_of text)) h)

  pub ends_long : 65536 < length text → Judges text words₀ (Err 16) words₀
  unfolding words_left
  ends_long h = record { answer = refused_text 16 (omega arith) (refusal_long text h); stored = if_true _ (lt-ltb _ _ h) refl }

  module _ (few : length text ≤ 65536) {words : List ℕ} {r : Option TextScore} (h : Parses text words₀ r words) where
    stored_left : words ≡ words_left text words₀
    unfolding words_left
    stored_left = if_false _ (le-ltb _ _ few) h.words

    ends_refused : (n : ℕ) → 0 < n → n ≡ text_refusal text → Judges text words₀ (Err n) words
    ends_refused n some e = record { answer = refused_text n some e; stored = stored_left }

    pub ends_broken : r ≡ None → Judges text words₀ (Err 15) words
    ends_broken told = ends_refused 15 (omega arith) (judged_broken text few (parsed_broken h told))

    module _ {x : TextScore} (told : r ≡ Some x) where
      said : Said x (text_of text) words₀ words
      said = parsed_score h told

      pub ends_frames : 2048 < x.numbers.n → Judges text words₀ (Err 16) words
      ends_frames long = ends_refused 16 (omega arith) (judged_frames text few said long)

      module _ (frames : x.numbers.n ≤ 2048) where
        pub ends_notes : 256 < x.count → Judges text words₀ (Err 16) words
        ends_notes many = ends_refused 16 (omega arith) (judged_notes text few said frames many)

        score_text : x.count ≤ 256 → Ok x ≡ judged text
        unfolding judged
        score_text notes = rw (← judged_none text few said frames notes, said.is) (ap Ok said.score)

        pub ends_score : x.count ≤ 256 → Judges text words₀ (Ok x) words
        ends_score notes = record { answer = score_text notes; stored = stored_left }
