-- Use for the loop over the notes, which ends since each line is a byte at least: a form leaves no more bytes than there were, and a line leaves fewer.
-- `notes_line` is the recursion that `notes_of` means. Assumes nothing.
use Prim.Native.Nat.{ℕ, zero, suc, ◌+◌, ◌*◌, ◌-◌, ◌≤◌, ◌<◌}
use mathlib.Core.Path.{◌≡◌, refl, sym, ap}
use mathlib.Core.List.{List, [], ◌∷◌}
use native.Mathlib.Omega.{arith}
use lib.ListN.{length, drop, get_or, length-drop}
use lib.Dec.{ltb, leb, eqb}
use Rattle.text_digits.specs.Read.{Read, got, broken, after, digit_of, byte, hex_from, digits_from, fitting, decimal}
use Rattle.text_lines.specs.Line.{value, field, fields, before, ending, line}
use Rattle.text_read.specs.Notes.{line_n, notes_up_to, notes_of, either_form, words_of, form_n, form_short, short_gain}
use Rattle.std.specs.Prelude.{Option, Some}
use Rattle.text_digits.specs.Answers.{value_in}
use Rattle.text_lines.proofs.Forms.{broken_got, test_picked, either, parted, after_same}

-- the bytes that were left are those that are
same_left : {A : Type 0} {v w : A} {s r : List ℕ} → got v s ≡ got w r → length r ≡ length s
same_left {A} {v} {w} {s} {r} e = let z : s ≡ r = cc in ap length (sym z)

byte_shorter : (b : ℕ) (s : List ℕ) {v : ℕ} {r : List ℕ} → byte b s ≡ got v r → length r < length s
unfolding byte
byte_shorter b [] e = broken_got e
byte_shorter b (x ∷ s) e = let z = same_left (test_picked (eqb x b) (got b s) e).1 in omega arith

hex_shorter : (k v : ℕ) (s : List ℕ) {w : ℕ} {r : List ℕ} → hex_from k v s ≡ got w r → length r ≤ length s
unfolding hex_from
hex_shorter zero v s e = let z = same_left e in omega arith
hex_shorter (suc k) v [] e = broken_got e
hex_shorter (suc k) v (b ∷ s) e =
    let l = hex_shorter k (v * 16 + digit_of b) s (test_picked (ltb (digit_of b) 16) (hex_from k (v * 16 + digit_of b) s) e).1 in
    omega arith

digits_shorter : (v : ℕ) (s : List ℕ) {w : ℕ} {r : List ℕ} → digits_from v s ≡ got w r → length r ≤ length s
unfolding digits_from
digits_shorter v [] e = let z = same_left e in omega arith
digits_shorter v (b ∷ s) {w} {r} e =
    either (ltb (digit_of b) 10) (digits_from (v * 10 + digit_of b) s) (got v (b ∷ s)) (got w r)
    (λ p. let l = digits_shorter (v * 10 + digit_of b) s p in omega arith) (λ p. let z = same_left p in omega arith) e

fitting_same : (most : ℕ) (x : Read ℕ) {w : ℕ} {r : List ℕ} → fitting most x ≡ got w r → x ≡ got w r
unfolding fitting
fitting_same most (got v s) e = (test_picked (leb v most) (got v s) e).1
fitting_same most broken e = broken_got e

decimal_shorter : (most : ℕ) (s : List ℕ) {w : ℕ} {r : List ℕ} → decimal most s ≡ got w r → length r ≤ length s
unfolding decimal
decimal_shorter most [] e = broken_got e
decimal_shorter most (b ∷ s) {w} {r} e =
    let digits = digits_from (digit_of b) s in
    either (eqb b 48) (got 0 s) _ (got w r) (λ p. let z = same_left p in omega arith)
    (λ p. let l = digits_shorter (digit_of b) s (fitting_same most digits (test_picked (ltb (digit_of b) 10) (fitting most digits) p).1) in omega arith) e

value_shorter : (kind : ℕ) (s : List ℕ) {w : ℕ} {r : List ℕ} → value kind s ≡ got w r → length r ≤ length s
unfolding value
value_shorter kind s {w} {r} e = either (eqb kind 8) (hex_from 8 0 s) (decimal 0xffffffff s) (got w r) (λ p. hex_shorter 8 0 s p) (λ p. decimal_shorter 0xffffffff s p) e

field_shorter : (kind : ℕ) (s : List ℕ) {w : ℕ} {r : List ℕ} → field kind s ≡ got w r → length r ≤ length s
unfolding field
field_shorter kind s e =
    let p = parted (byte 9 s) (λ _ rest. value kind rest) e in
    let l = byte_shorter 9 s p.first in
    let m = value_shorter kind p.rest p.second in
    omega arith

-- values put before others leave the same bytes
before_left : (vs : List ℕ) (x : Read (List ℕ)) (m : ℕ) {ws r : List ℕ} → ((us q : List ℕ) → x ≡ got us q → length q ≤ m) → before vs x ≡ got ws r → length r ≤ m
unfolding before
before_left vs (got us q) m h e = let l = h us q refl in let z = same_left e in omega arith
before_left vs broken m h e = broken_got e

fields_shorter : (ks s : List ℕ) {vs r : List ℕ} → fields ks s ≡ got vs r → length r ≤ length s
unfolding fields
fields_shorter [] s e = let z = same_left e in omega arith
fields_shorter (k ∷ ks) s e =
    let p = parted (field k s) (λ v rest. before (v ∷ []) (fields ks rest)) e in
    let l = field_shorter k s p.first in
    let m = before_left (p.value ∷ []) (fields ks p.rest) (length p.rest) (λ us q e. fields_shorter ks p.rest e) p.second in
    omega arith

ending_shorter : (ks s : List ℕ) {vs r : List ℕ} → ending ks s ≡ got vs r → length r < length s
unfolding ending
ending_shorter ks s e =
    let p = parted (fields ks s) (λ vs rest. after (byte 10 rest) (λ _ next. got vs next)) e in
    let q = parted (byte 10 p.rest) (λ _ next. got p.value next) p.second in
    let l = fields_shorter ks s p.first in
    let m = byte_shorter 10 p.rest q.first in
    let z = same_left q.second in
    omega arith

line_shorter : (letter : ℕ) (ks s : List ℕ) {vs r : List ℕ} → line letter ks s ≡ got vs r → length r < length s
unfolding line
line_shorter letter ks s e =
    let p = parted (byte letter s) (λ _ rest. ending ks rest) e in
    let l = byte_shorter letter s p.first in
    let m = ending_shorter ks p.rest p.second in
    omega arith

pub or_else : {P : Type 0} {A : Type 0} (x y : Read A) {v : A} {r : List ℕ} → (x ≡ got v r → P) → (y ≡ got v r → P) → either_form x y ≡ got v r → P
unfolding either_form
or_else (got u s) y f g e = f e
or_else broken y f g e = g e

-- what is made of a line's values leaves what the line leaves
made_shorter : (letter : ℕ) (ks s : List ℕ) (make : List ℕ → List ℕ) {vs r : List ℕ} → after (line letter ks s) (λ us rest. got (make us) rest) ≡ got vs r → length r < length s
made_shorter letter ks s make e =
    let p = parted (line letter ks s) (λ us rest. got (make us) rest) e in
    let l = line_shorter letter ks s p.first in
    let z = same_left p.second in
    omega arith

pub note_shorter : (s : List ℕ) {ws r : List ℕ} → line_n s ≡ got ws r → length r < length s
unfolding line_n
note_shorter s e =
    or_else _ _ (λ p. made_shorter 78 form_n s (λ vs. words_of vs (get_or vs 3 0)) p) (λ p. made_shorter 78 form_short s (λ vs. words_of vs short_gain) p) e

-- a bound that is as long as the bytes is never met
enough : (j k : ℕ) (s : List ℕ) → length s ≤ j → length s ≤ k → notes_up_to j s ≡ notes_up_to k s
unfolding notes_up_to
enough zero zero s h l = refl
enough zero (suc k) [] h l = refl
enough zero (suc k) (b ∷ s) h l = absurd (omega arith)
enough (suc j) zero [] h l = refl
enough (suc j) zero (b ∷ s) h l = absurd (omega arith)
enough (suc j) (suc k) [] h l = refl
enough (suc j) (suc k) (b ∷ s) h l =
    after_same (line_n (b ∷ s)) (λ ws rest. before ws (notes_up_to j rest)) (λ ws rest. before ws (notes_up_to k rest))
    (λ ws rest e. let m = note_shorter (b ∷ s) e in ap (before ws) (enough j k rest (omega arith) (omega arith)))

pub notes_none : notes_of [] ≡ got [] []
unfolding notes_of notes_up_to
notes_none = refl

pub notes_line : (b : ℕ) (s : List ℕ) → notes_of (b ∷ s) ≡ after (line_n (b ∷ s)) (λ ws rest. before ws (notes_of rest))
unfolding notes_of notes_up_to
notes_line b s =
    after_same (line_n (b ∷ s)) (λ ws rest. before ws (notes_up_to (length s) rest)) (λ ws rest. before ws (notes_up_to (length rest) rest))
    (λ ws rest e. let m = note_shorter (b ∷ s) e in ap (before ws) (enough (length s) (length rest) rest (omega arith) (omega arith)))

pub note_later : (s : List ℕ) (at : ℕ) {r : Option (List ℕ × ℕ)} {v : List ℕ} {next : ℕ} → r ≡ Some (v, next) → value_in s r ≡ line_n (drop at s) → length s - next < length s - at
note_later s at {r} {v} {next} told e =
    let l = note_shorter (drop at s) (sym (rw told at e)) in
    let m = length-drop at s in
    let n = length-drop next s in
    omega arith
