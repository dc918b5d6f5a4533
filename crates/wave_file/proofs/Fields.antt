-- Use at a place of a file: the number in its bytes, and numbers written one after another. Assumes nothing.
use Prim.Native.Nat.{ℕ, zero, suc, ◌+◌, ◌*◌, ◌/◌, ◌%◌, ◌^◌, ◌≤◌, ◌<◌}
use mathlib.Core.Path.{◌≡◌, refl, sym, ap, ◌∙◌}
use mathlib.Core.List.{List, [], ◌++◌, append_assoc}
use native.Mathlib.Omega.{arith}
use native.Mathlib.Numerals.{add-one}
use lib.ListN.{length, take, drop, get_or, set, length-append, length-drop, take-append-drop}
use lib.Pow.{pow-add}
use lib.Seq.{drop-cons, sets, sets-eq, take_at, drop-append-add, drop-drop, length-take-le}
use Rattle.wave_file.specs.Bytes.{little_endian, number_in, field_at, Placed}

-- ---- numbers that stand in bytes
pub field_more : (n : ℕ) (f : List ℕ) (at : ℕ) → at < length f → field_at (suc n) at f ≡ get_or f at 0 + 256 * field_at n (at + 1) f
unfolding number_in
field_more n f at h = rw (add-one, drop-cons f at 0)

module _ (f : List ℕ) (at : ℕ) where
  pub field_two : at + 2 ≤ length f → get_or f at 0 + 256 * get_or f (at + 1) 0 ≡ field_at 2 at f
  unfolding number_in
  field_two h = omega (arith, field_more 1 f at (omega arith), field_more 0 f (at + 1) (omega arith))

  pub field_halves : at + 4 ≤ length f → field_at 2 at f + 65536 * field_at 2 (at + 2) f ≡ field_at 4 at f
  unfolding number_in
  field_halves h =
      let e2 : at + 1 + 1 ≡ at + 2 = omega arith in
      let s1 = field_more 2 f (at + 1) (omega arith) in
      let s2 = rw e2 at s1 in
      omega (arith, field_more 3 f at (omega arith), field_more 1 f at (omega arith), field_more 0 f (at + 1) (omega arith))

-- ---- numbers that are written
-- what is written is read again
pub number_little : (n v : ℕ) → v < 256 ^ n → number_in (little_endian n v) ≡ v
unfolding number_in little_endian
number_little zero v h = omega arith
number_little (suc n) v h =
    let p : 256 ^ (n + 1) ≡ 256 ^ n * 256 ^ 1 = pow-add 256 n 1 in
    let q : v < 256 ^ n * 256 = omega (arith, rw add-one at p) in
    let r : v / 256 < 256 ^ n = omega arith in
    rw (number_little n (v / 256) r) (omega arith)

pub length_little : (n v : ℕ) → length (little_endian n v) ≡ n
unfolding little_endian
length_little zero v = refl
length_little (suc n) v = ap suc (length_little n (v / 256))

placed_sets : (bytes : List ℕ) (at : ℕ) (f : List ℕ) → at + length bytes ≤ length f → Placed bytes at f (sets f at bytes)
placed_sets bytes at f h = record { is = sets-eq bytes f at h ∙ append_assoc (take at f) bytes (drop (at + length bytes) f) }

module _ (f : List ℕ) (at v : ℕ) where
  pub placed_two : at + 2 ≤ length f → Placed (little_endian 2 v) at f (set (set f at (v % 256)) (at + 1) (v / 256 % 256))
  unfolding little_endian
  placed_two h = rw add-one (placed_sets (little_endian 2 v) at f h)

pub placed_none : (f : List ℕ) (at : ℕ) → Placed [] at f f
placed_none f at = let z : at + 0 ≡ at = omega arith in record { is = rw z (sym (take-append-drop at f)) }

pub placed_length : {a f₀ f : List ℕ} {at : ℕ} → at + length a ≤ length f₀ → Placed a at f₀ f → length f ≡ length f₀
placed_length {a} {f₀} {f} {at} h p =
    let D = drop (at + length a) f₀ in
    let l : at ≤ length f₀ = omega arith in
    let m = length-append (take at f₀) (a ++ D) in
    omega (arith, ap length p.is, length-append a D, length-take-le at f₀ l, length-drop (at + length a) f₀)

-- two numbers, or rows of numbers, one after the other: the second starts at n
module _ {a b f₀ f₁ f₂ : List ℕ} {at n : ℕ} where
  pub placed_both : at ≤ length f₀ → at + length a ≡ n → Placed a at f₀ f₁ → Placed b n f₁ f₂ → Placed (a ++ b) at f₀ f₂
  placed_both l e p q =
      let P = take at f₀ ++ a in
      let D = drop (at + length a) f₀ in
      let s : length P ≡ n = length-append (take at f₀) a ∙ ap (λ (k : ℕ). k + length a) (length-take-le at f₀ l) ∙ e in
      let o : f₁ ≡ P ++ D = p.is ∙ sym (append_assoc (take at f₀) a D) in
      let t : take n f₁ ≡ P = ap (take n) o ∙ take_at P D n s in
      let z : at + length a + length b ≡ at + length (a ++ b) = omega (arith, length-append a b) in
      let d : drop (n + length b) f₁ ≡ drop (at + length (a ++ b)) f₀ =
      rw (o, ← s) (drop-append-add P D (length b) ∙ drop-drop (length b) (at + length a) f₀ ∙ ap (λ (k : ℕ). drop k f₀) z) in
      record { is = q.is ∙ rw (t, d) (simp append_assoc) }

-- a number of four bytes, as two of two
little_halves : (v : ℕ) → little_endian 2 v ++ little_endian 2 (v / 65536) ≡ little_endian 4 v
unfolding little_endian
little_halves v = let c : v / 65536 ≡ v / 256 / 256 = omega arith in rw c

pub placed_halves : (v : ℕ) {f₀ f₁ f₂ : List ℕ} {at : ℕ} → at ≤ length f₀ → Placed (little_endian 2 v) at f₀ f₁
    → Placed (little_endian 2 (v / 65536)) (at + 2) f₁ f₂ → Placed (little_endian 4 v) at f₀ f₂
placed_halves v {at = at} l p q = rw little_halves at (placed_both l (ap (λ (k : ℕ). at + k) (length_little 2 v)) p q)
