-- Use at the returns of the reader of the whole text: one law for each line at which it may break, and `all_lines`. Assumes nothing.
use Prim.Native.Nat.{ℕ}
use mathlib.Core.Path.{◌≡◌, refl, sym, ap, ◌∙◌}
use mathlib.Core.List.{List}
use native.Mathlib.Omega.{arith}
use Rattle.dsl.specs.declared.knobs.Adsr.{Adsr}
use Rattle.std.specs.Prelude.{Option, Some, None}
use Rattle.text_digits.specs.Read.{Read, got, broken, after}
use Rattle.text_lines.specs.Line.{line_s, line_g, line_e}
use Rattle.text_voice_line.specs.Voice.{line_v}
use Rattle.text_read.specs.Notes.{notes_of, count_of, counted, words_after, Noted}
use Rattle.text_read.specs.Text.{Text, text_of, parsed_of, notes_read, Parses}
use Rattle.text_lines.specs.declared.Numbers.{Numbers}
use Rattle.text_lines.specs.declared.Opening.{Opening}
use Rattle.text_voice_line.specs.declared.Sound.{Sound}

module _ (text words : List ℕ) where
  parses_broken : broken ≡ text_of text → Parses text words None words
  parses_broken e = record { answer = rw (← e); words = rw (← e) }

  pub broken_numbers : broken ≡ line_s text → Parses text words None words
  unfolding text_of
  broken_numbers e = parses_broken (rw (← e))

  module _ {a : Numbers} {s₁ : List ℕ} (hS : got a s₁ ≡ line_s text) where
    pub broken_opening : broken ≡ line_g s₁ → Parses text words None words
    unfolding text_of
    broken_opening e = parses_broken (rw (← hS, ← e))

    module _ {g : Opening} {s₂ : List ℕ} (hG : got g s₂ ≡ line_g s₁) where
      pub broken_envelope : broken ≡ line_e s₂ → Parses text words None words
      unfolding text_of
      broken_envelope e = parses_broken (rw (← hS, ← hG, ← e))

      module _ {env : Adsr} {s₃ : List ℕ} (hE : got env s₃ ≡ line_e s₂) where
        pub broken_voice : broken ≡ line_v s₃ → Parses text words None words
        unfolding text_of
        broken_voice e = parses_broken (rw (← hS, ← hG, ← hE, ← e))

        module _ {v : Sound} {s₄ : List ℕ} (hV : got v s₄ ≡ line_v s₃) where
          text_with : List ℕ → Text
          text_with ws = record { numbers = a; env = env; sound = v; seed = g.seed; draw = g.draw; notes = ws }

          lines_read : text_of text ≡ after (notes_of s₄) (λ ws rest. got (text_with ws) rest)
          unfolding text_of text_with
          lines_read = rw (← hS, ← hG, ← hE, ← hV)

          -- what the lines say, by what the notes say
          text_from : Read (List ℕ) → Read Text
          text_from x = after x (λ ws rest. got (text_with ws) rest)

          bad : (x : Read (List ℕ)) → None ≡ counted x → broken ≡ text_from x
          unfolding text_from
          bad (got ws rest) e = let z : ◌≡◌ {A = ℕ} 0 1 = cc in absurd (omega arith)
          bad broken e = refl

          good : (x : Read (List ℕ)) {n : ℕ} → Some n ≡ counted x → Some (record { numbers = a; env = env; sound = v; seed = g.seed; draw = g.draw; count = n }) ≡ parsed_of (text_from x)
          unfolding text_from text_with
          good (got ws rest) {n} e = let z : n ≡ count_of ws = cc in rw z
          good broken e = let z : ◌≡◌ {A = ℕ} 0 1 = cc in absurd (omega arith)

          same_notes : (x : Read (List ℕ)) → x ≡ notes_read (text_from x)
          unfolding text_from text_with
          same_notes (got ws rest) = refl
          same_notes broken = refl

          module _ {words₁ : List ℕ} {r : Option ℕ} (h : Noted (notes_of s₄) words r words₁) where
            words_after_lem : words₁ ≡ words_after (notes_read (text_of text)) words
            unfolding text_from
            words_after_lem = h.stored ∙ ap (λ (x : Read (List ℕ)). words_after x words) (same_notes (notes_of s₄) ∙ ap notes_read (sym lines_read))

            pub broken_notes : r ≡ None → Parses text words None words₁
            unfolding text_from
            broken_notes told = record { answer = rw (lines_read, ← (bad (notes_of s₄) (rw told at h.count))); words = words_after_lem }

            pub all_lines : {n : ℕ} → r ≡ Some n → Parses text words (Some (record { numbers = a; env = env; sound = v; seed = g.seed; draw = g.draw; count = n })) words₁
            unfolding text_from
            all_lines told = record { answer = rw lines_read (good (notes_of s₄) (rw told at h.count)); words = words_after_lem }
