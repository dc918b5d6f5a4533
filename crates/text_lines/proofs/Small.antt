-- Use where the number of a field goes into a u32: a field that was read fits 32 bits. Assumes nothing.
use Prim.Native.Nat.{ℕ, zero, suc, ◌+◌, ◌*◌, ◌^◌, ◌≤◌, ◌<◌}
use mathlib.Core.Path.{◌≡◌, sym}
use mathlib.Core.List.{List, [], ◌∷◌}
use native.Mathlib.Omega.{arith}
use borrow.Author.Tests.{ltb-true, leb-true}
use lib.ListN.{drop}
use lib.Dec.{ltb, leb, eqb}
use Rattle.std.specs.Prelude.{Option, Some}
use Rattle.text_digits.specs.Read.{Read, got, broken, digit_of, hex_from, digits_from, fitting, decimal, byte}
use Rattle.text_lines.specs.Line.{value, field}
use Rattle.text_digits.specs.Answers.{value_in}
use Rattle.text_lines.proofs.Forms.{broken_got, test_picked, either, parted}
use Rattle.text_digits.proofs.Reading.{hex_room}

hex_small : (k i v : ℕ) (s : List ℕ) {w : ℕ} {r : List ℕ} → i + k ≤ 16 → v < 2 ^ (4 * i) → hex_from k v s ≡ got w r → w < 2 ^ (4 * (i + k))
unfolding hex_from
hex_small zero i v s {w} {r} h l e =
    let y : v ≡ w = cc in
    let z : i + 0 ≡ i = omega arith in
    rw (z, ← y) l
hex_small (suc k) i v [] h l e = broken_got e
hex_small (suc k) i v (b ∷ s) h l e =
    let p = test_picked (ltb (digit_of b) 16) (hex_from k (v * 16 + digit_of b) s) e in
    let z : i + suc k ≡ i + 1 + k = omega arith in
    rw z (hex_small k (i + 1) (v * 16 + digit_of b) s (omega arith) (hex_room i v (digit_of b) (omega arith) l (ltb-true (digit_of b) 16 p.0)).1 p.1)

fitting_small : (most : ℕ) (x : Read ℕ) {w : ℕ} {r : List ℕ} → fitting most x ≡ got w r → w ≤ most
unfolding fitting
fitting_small most (got v s) {w} {r} e =
    let p = test_picked (leb v most) (got v s) e in
    let q : got v s ≡ got w r = p.1 in
    let y : v ≡ w = cc in
    let l : v ≤ most = leb-true v most p.0 in
    omega arith
fitting_small most broken e = broken_got e

decimal_small : (most : ℕ) (s : List ℕ) {w : ℕ} {r : List ℕ} → decimal most s ≡ got w r → w ≤ most
unfolding decimal
decimal_small most [] e = broken_got e
decimal_small most (b ∷ s) {w} {r} e =
    either (eqb b 48) (got 0 s) _ (got w r) (λ p. let y : 0 ≡ w = cc in omega arith)
    (λ p. fitting_small most (digits_from (digit_of b) s) (test_picked (ltb (digit_of b) 10) (fitting most (digits_from (digit_of b) s)) p).1) e

value_small : (kind : ℕ) (s : List ℕ) {w : ℕ} {r : List ℕ} → value kind s ≡ got w r → w < 2 ^ 32
unfolding value
value_small kind s {w} {r} e =
    either (eqb kind 8) (hex_from 8 0 s) (decimal 0xffffffff s) (got w r) (λ p. hex_small 8 0 0 s (omega arith) (omega arith) p)
    (λ p. let l = decimal_small 0xffffffff s p in omega arith) e

pub field_small : (kind at : ℕ) (s : List ℕ) {w next : ℕ} {r : Option (ℕ × ℕ)} → r ≡ Some (w, next) → value_in s r ≡ field kind (drop at s) → w < 2 ^ 32
unfolding field
field_small kind at s told e =
    let p = parted (byte 9 (drop at s)) (λ _ rest. value kind rest) (sym (rw told at e)) in
    value_small kind p.rest p.second
