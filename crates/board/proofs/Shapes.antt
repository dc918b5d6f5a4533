-- What a write covers, by the code's tests. Assumes nothing.
use Prim.Native.Nat.{ℕ, ◌+◌, ◌-◌, ◌≤◌, ◌<◌}
use mathlib.Core.Path.{◌≡◌, refl, sym}
use mathlib.Core.List.{List}
use mathlib.Core.Bool.{Bool, true, false, ◌&&◌}
use native.Mathlib.Omega.{arith}
use borrow.Author.Tests.{ltb-true, leb-true, eqb-true, lt-ltb, le-leb, lt-leb}
use lib.ListN.{length}
use lib.Dec.{ltb, leb, eqb}
use Rattle.board.specs.Shape.{covers, is_sample, inside}

-- two tests that hold together
same_test : (x y : Bool) → (x ≡ true → y ≡ true) → (y ≡ true → x ≡ true) → x ≡ y
same_test true y f g = sym (f refl)
same_test false true f g = g refl
same_test false false f g = refl

pub and_both : (x y : Bool) → (x && y) ≡ true → (x ≡ true) × (y ≡ true)
and_both true y e = (refl, e)
and_both false y e = let z : true ≡ false = sym e in (cc, cc)

pub covers_after : (place n at : ℕ) → place ≤ at → ltb (at - place) n ≡ covers place n at
covers_after place n at h =
    rw (le-leb place at h)
    (same_test (ltb (at - place) n) (ltb at (place + n))
    (λ e. lt-ltb at (place + n) (omega (arith, ltb-true (at - place) n e)))
    (λ e. lt-ltb (at - place) n (omega (arith, ltb-true at (place + n) e))))

pub covers_not : (place n at : ℕ) → at < place → false ≡ covers place n at
covers_not place n at h = rw (lt-leb place at h)

-- a covered byte stands in the write at its distance from the place
pub covers_from : (place n at : ℕ) → covers place n at ≡ true → place ≤ at
covers_from place n at e = leb-true place at (and_both (leb place at) (ltb at (place + n)) e).0

pub covers_within : (place n at : ℕ) → covers place n at ≡ true → at - place < n
covers_within place n at e =
    let h : place ≤ at = covers_from place n at e in
    omega (arith, ltb-true at (place + n) (and_both (leb place at) (ltb at (place + n)) e).1)

pub sample_length : (place : ℕ) (bytes : List ℕ) → is_sample place bytes ≡ true → length bytes ≡ 4
unfolding is_sample
sample_length place bytes e = eqb-true (length bytes) 4 (and_both (eqb place 4) (eqb (length bytes) 4) e).1

pub inside_is : (place n : ℕ) → (n ≡ 0 → ⊥) → place ≤ 3 → leb n (3 - place) ≡ inside place n
inside_is place n h k =
    let p : 0 < n = omega arith in
    rw (lt-ltb 0 n p)
    (same_test (leb n (3 - place)) (leb (place + n) 3)
    (λ e. le-leb (place + n) 3 (omega (arith, leb-true n (3 - place) e)))
    (λ e. le-leb n (3 - place) (omega (arith, leb-true (place + n) 3 e))))

pub inside_far : (place n : ℕ) → (n ≡ 0 → ⊥) → 3 < place → false ≡ inside place n
inside_far place n h k =
    let p : 0 < n = omega arith in
    let q : 3 < place + n = omega arith in
    rw (lt-ltb 0 n p, lt-leb (place + n) 3 q)
