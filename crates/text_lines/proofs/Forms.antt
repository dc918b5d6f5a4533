-- Use where some bytes are known to be of a form that is made of others: what its parts then read. Assumes nothing.
use Prim.Native.Nat.{ℕ}
use mathlib.Core.Path.{◌≡◌, refl}
use mathlib.Core.List.{List}
use mathlib.Core.Bool.{Bool, true, false, cond}
use native.Mathlib.Omega.{arith}
use Rattle.text_digits.specs.Read.{Read, got, broken, after}

pub broken_got : {A : Type 0} {P : Type 0} {v : A} {r : List ℕ} → broken ≡ got v r → P
broken_got {A} {P} {v} {r} e = let z : ◌≡◌ {A = ℕ} 0 1 = cc in absurd (omega arith)

-- the value that was read is the one that is
pub got_value : {A : Type 0} {v w : A} {s r : List ℕ} → got v s ≡ got w r → v ≡ w
got_value {A} {v} {w} {s} {r} e = cc

-- a test that picked a value was true, and the value is the picked one
pub test_picked : {A : Type 0} (t : Bool) (x : Read A) {v : A} {r : List ℕ} → cond t x broken ≡ got v r → (t ≡ true) × (x ≡ got v r)
test_picked true x e = (refl, e)
test_picked false x e = broken_got e

-- one of two was picked
pub either : {P : Type 0} {A : Type 0} (t : Bool) (x y z : A) → (x ≡ z → P) → (y ≡ z → P) → cond t x y ≡ z → P
either true x y z f g e = f e
either false x y z f g e = g e

-- the first form's value and rest, and what the second reads on from there
pub record Parted {A B : Type 0} (x : Read A) (f : A → List ℕ → Read B) (v : B) (r : List ℕ) : Type 0 where
  pub value : A
  pub rest : List ℕ
  pub first : x ≡ got value rest
  pub second : f value rest ≡ got v r

pub parted : {A B : Type 0} (x : Read A) (f : A → List ℕ → Read B) {v : B} {r : List ℕ} → after x f ≡ got v r → Parted x f v r
parted (got u s) f e = record { value = u; rest = s; first = refl; second = e }
parted broken f e = broken_got e

-- two second forms that agree where the first form was read
pub after_same : {A B : Type 0} (x : Read A) (f g : A → List ℕ → Read B) → ((v : A) (r : List ℕ) → x ≡ got v r → f v r ≡ g v r) → after x f ≡ after x g
after_same (got v r) f g h = h v r refl
after_same broken f g h = refl
