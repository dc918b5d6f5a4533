-- Use where a text was read: it was read to its end. Assumes nothing.
use Prim.Native.Nat.{ℕ, zero, suc}
use mathlib.Core.Path.{◌≡◌, refl}
use mathlib.Core.List.{List, [], ◌∷◌}
use lib.ListN.{length}
use Rattle.text_digits.specs.Read.{Read, got, broken}
use Rattle.text_lines.specs.Line.{before, line_s, line_g, line_e}
use Rattle.text_voice_line.specs.Voice.{line_v}
use Rattle.text_read.specs.Notes.{line_n, notes_up_to, notes_of}
use Rattle.text_read.specs.Text.{Text, text_of}
use Rattle.text_lines.proofs.Forms.{broken_got, parted}

before_rest : (vs : List ℕ) (x : Read (List ℕ)) {ws r : List ℕ} → ((us q : List ℕ) → x ≡ got us q → q ≡ []) → before vs x ≡ got ws r → r ≡ []
unfolding before
before_rest vs (got us q) {ws} {r} h e = let l = h us q refl in cc
before_rest vs broken h e = broken_got e

notes_whole : (most : ℕ) (s : List ℕ) {ws r : List ℕ} → notes_up_to most s ≡ got ws r → r ≡ []
unfolding notes_up_to
notes_whole zero [] {ws} {r} e = cc
notes_whole zero (b ∷ s) e = broken_got e
notes_whole (suc most) [] {ws} {r} e = cc
notes_whole (suc most) (b ∷ s) e =
    let p = parted (line_n (b ∷ s)) (λ ws rest. before ws (notes_up_to most rest)) e in
    before_rest p.value (notes_up_to most p.rest) (λ us q d. notes_whole most p.rest d) p.second

pub text_whole : (s : List ℕ) {t : Text} {r : List ℕ} → text_of s ≡ got t r → r ≡ []
unfolding text_of notes_of
text_whole s {t} {r} e =
    let a = parted (line_s s) _ e in
    let g = parted (line_g a.rest) _ a.second in
    let env = parted (line_e g.rest) _ g.second in
    let v = parted (line_v env.rest) _ env.second in
    let n = parted (notes_up_to (length v.rest) v.rest) _ v.second in
    let last = n.second in
    let same : n.rest ≡ r = cc in
    let whole = notes_whole (length v.rest) v.rest n.first in
    cc
