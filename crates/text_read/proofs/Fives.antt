-- Use where words are counted by notes: the words of the notes are five to a note. Assumes nothing.
use Prim.Native.Nat.{ℕ, zero, suc, ◌+◌, ◌*◌}
use mathlib.Core.Path.{◌≡◌, refl, sym, ap, ◌∙◌}
use mathlib.Core.List.{List, [], ◌∷◌, ◌++◌}
use native.Mathlib.Omega.{arith}
use lib.ListN.{length, get_or, length-append}
use Rattle.text_digits.specs.Read.{Read, got, broken, after}
use Rattle.text_lines.specs.Line.{before, line}
use Rattle.text_lines.proofs.Forms.{broken_got, parted}
use Rattle.text_read.specs.Notes.{line_n, notes_up_to, notes_of, words_of, form_n, form_short, short_gain, count_of}
use Rattle.text_read.proofs.Shorter.{or_else}

made_five : (x : Read (List ℕ)) (gain : List ℕ → ℕ) {ws r : List ℕ} → after x (λ us rest. got (words_of us (gain us)) rest) ≡ got ws r → length ws ≡ 5
made_five (got us rest) gain {ws} {r} e = let z : words_of us (gain us) ≡ ws = cc in ap length (sym z)
made_five broken gain e = broken_got e

pub note_five : (s : List ℕ) {ws r : List ℕ} → line_n s ≡ got ws r → length ws ≡ 5
unfolding line_n
note_five s e = or_else _ _ (λ p. made_five (line 78 form_n s) (λ vs. get_or vs 3 0) p) (λ p. made_five (line 78 form_short s) (λ _. short_gain) p) e

before_five : (vs : List ℕ) (x : Read (List ℕ)) {ws r : List ℕ} → length vs ≡ 5 → ((us q : List ℕ) → x ≡ got us q → length us ≡ count_of us * 5) → before vs x ≡ got ws r → length ws ≡ count_of ws * 5
unfolding before
before_five vs (got us q) {ws} {r} h f e =
    let z : vs ++ us ≡ ws = cc in
    let l : length ws ≡ 5 + length us = sym (ap length z) ∙ length-append vs us ∙ omega arith in
    let m = f us q refl in
    omega arith
before_five vs broken h f e = broken_got e

fives : (most : ℕ) (s : List ℕ) {ws r : List ℕ} → notes_up_to most s ≡ got ws r → length ws ≡ count_of ws * 5
unfolding notes_up_to
fives zero [] {ws} {r} e = let z : [] ≡ ws = cc in rw (← z)
fives zero (b ∷ s) e = broken_got e
fives (suc most) [] {ws} {r} e = let z : [] ≡ ws = cc in rw (← z)
fives (suc most) (b ∷ s) e =
    let p = parted (line_n (b ∷ s)) (λ ws rest. before ws (notes_up_to most rest)) e in
    before_five p.value (notes_up_to most p.rest) (note_five (b ∷ s) p.first) (λ us q d. fives most p.rest d) p.second

pub notes_five : (s : List ℕ) {ws r : List ℕ} → notes_of s ≡ got ws r → length ws ≡ count_of ws * 5
unfolding notes_of
notes_five s e = fives (length s) s e
