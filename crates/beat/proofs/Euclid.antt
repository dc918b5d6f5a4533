-- Euclid's steps. Assumes nothing.
use Rattle.std.proofs.Common.{◌≡◌, ℕ, ◌%◌}
use Prim.Native.Nat.{◌∣◌}
use native.Mathlib.Nat.{dvd_refl, dvd-zero, dvd-mod_iff}
use Rattle.beat.specs.Gcd.{Gcd}

-- what divides the two numbers at hand divides the two at first, and the other way round
pub record Steps (x y a b : ℕ) : Type 0 where
  pub to : (d : ℕ) → d ∣ x → d ∣ y → (d ∣ a) × (d ∣ b)
  pub from : (d : ℕ) → d ∣ a → d ∣ b → (d ∣ x) × (d ∣ y)

pub steps_none : {x y : ℕ} → Steps x y x y
steps_none = record { to = λ d p q. (p, q); from = λ d p q. (p, q) }

pub steps_more : {x y a b : ℕ} → Steps x y a b → Steps x y b (a % b)
steps_more {x} {y} {a} {b} h = record {
  to = λ d p q. let (r, s) = h.to d p q in (s, (dvd-mod_iff d {m = a} {n = b} s).1 r);
  from = λ d p q. h.from d ((dvd-mod_iff d {m = a} {n = b} p).0 q) p;
}

pub steps_end : {x y a b : ℕ} → Steps x y a b → b ≡ 0 → Gcd x y a
steps_end {x} {y} {a} {b} h e =
    let z : a ∣ b = rw e (dvd-zero a) in
    let (l, r) = h.from a (dvd_refl a) z in
    record { left = l; right = r; greatest = λ d p q. (h.to d p q).0 }
