-- Use where refusals are tested one after the other: `turned` is what a chain of `or_else` finds, `none_holds` what is known where none applies, `Probed` the invariant of a
-- loop that leaves at the first that applies, `left_with` what a `?` returns. Assumes nothing.
use Prim.Native.Nat.{ℕ, zero, suc, ◌+◌, ◌-◌, ◌≤◌, ◌<◌}
use mathlib.Core.Path.{◌≡◌, refl, sym, ap, ◌∙◌}
use mathlib.Core.List.{List, [], ◌∷◌, ◌++◌}
use mathlib.Core.Bool.{Bool, true, false, cond}
use native.Mathlib.Omega.{arith}
use native.Mathlib.Numerals.{add-one}
use borrow.Author.Tests.{ltb-true, ltb-false, le-ltb}
use lib.Dec.{ltb}
use Rattle.laws.specs.Listed.{listed_from, listed}
use Rattle.outcome.specs.First.{Test, first_of, or_else, first_refusal, first_after, outside}
use Rattle.outcome.specs.declared.answer.Refusal.{Refusal}
use Rattle.outcome.specs.Outcome.{Verdict}
use Rattle.std.specs.Prelude.{Result, Ok, Err, IsErrAnd}

-- ---- none applies: each test is false, by its place
abbrev pub AllFalse : List Test → Type 0
AllFalse [] = Unit
AllFalse (t ∷ ts) = (t.holds ≡ false) × AllFalse ts

not_first : (b : Bool) (r : Refusal) (rest : Verdict) → cond b (Err r) rest ≡ Ok tt → (b ≡ false) × (rest ≡ Ok tt)
not_first true r rest e = (cc, cc)
not_first false r rest e = (refl, e)

pub none_holds : (ts : List Test) → first_of ts ≡ Ok tt → AllFalse ts
unfolding first_of
none_holds [] e = tt
none_holds (t ∷ ts) e = let here = not_first t.holds t.refusal (first_of ts) e in (here.0, none_holds ts here.1)

-- and the other way round
pub all_false : (ts : List Test) → AllFalse ts → first_of ts ≡ Ok tt
unfolding first_of
all_false [] f = refl
all_false (t ∷ ts) f = rw f.0 (all_false ts f.1)

pub or_fine : (v next : Verdict) → or_else v next ≡ Ok tt → (v ≡ Ok tt) × (next ≡ Ok tt)
or_fine (Ok _) next e = (refl, e)
or_fine (Err r) next e = (e, cc)

-- a number that is not outside
pub inside_least : (x low high : ℕ) → outside x low high ≡ false → low ≤ x
inside_least x low high e = ltb-false x low (by (ltb x low) (ltb high x) e)
  where
    by : (a b : Bool) → cond a true b ≡ false → a ≡ false
    by true b e = e
    by false b e = refl

pub inside_most : (x low high : ℕ) → outside x low high ≡ false → x ≤ high
inside_most x low high e = ltb-false high x (by (ltb x low) (ltb high x) e)
  where
    by : (a b : Bool) → cond a true b ≡ false → b ≡ false
    by true b e = cc
    by false b e = e

pub inside_is : (x low high : ℕ) → low ≤ x → x ≤ high → outside x low high ≡ false
inside_is x low high l h = rw (le-ltb x low l) (le-ltb high x h)

-- ---- test after test
or_or : (v : Verdict) (b : Bool) (r : Refusal) (rest : Verdict) → or_else (or_else v (cond b (Err r) (Ok tt))) rest ≡ or_else v (cond b (Err r) rest)
or_or (Ok _) true r rest = refl
or_or (Ok _) false r rest = refl
or_or (Err x) b r rest = refl

or_none : (v : Verdict) → v ≡ or_else v (Ok tt)
or_none (Ok _) = refl
or_none (Err r) = refl

pub turned : (v : Verdict) (ts : List Test) → first_after v ts ≡ or_else v (first_of ts)
unfolding first_of
turned v [] = or_none v
turned v (t ∷ ts) = turned (or_else v (cond t.holds (Err t.refusal) (Ok tt))) ts ∙ or_or v t.holds t.refusal (first_of ts)

-- ---- tests of which a chain takes the first ones
cond_or : (b : Bool) (r : Refusal) (v next : Verdict) → cond b (Err r) (or_else v next) ≡ or_else (cond b (Err r) v) next
cond_or true r v next = refl
cond_or false r v next = refl

pub first_append : (ts us : List Test) → first_of (ts ++ us) ≡ or_else (first_of ts) (first_of us)
unfolding first_of
first_append [] us = refl
first_append (t ∷ ts) us = ap (cond t.holds (Err t.refusal)) (first_append ts us) ∙ cond_or t.holds t.refusal (first_of ts) (first_of us)

module _ (ts us : List Test) where
  pub chain_refused : {r : Refusal} → Err r ≡ first_after (Ok tt) ts → Err r ≡ first_of (ts ++ us)
  chain_refused e = ap (λ (v : Verdict). or_else v (first_of us)) (e ∙ turned (Ok tt) ts) ∙ sym (first_append ts us)

  pub chain_fine : {v : Verdict} → Ok tt ≡ first_after (Ok tt) ts → v ≡ first_of us → v ≡ first_of (ts ++ us)
  chain_fine e f = f ∙ ap (λ (v : Verdict). or_else v (first_of us)) (e ∙ turned (Ok tt) ts) ∙ sym (first_append ts us)

-- ---- what is returned where `?` leaves: the refusal that was found
pub left_with : {T : Type 0} (r : Result T Refusal) {e : Refusal} → IsErrAnd r (λ d. d ≡ e) → r ≡ Err e
left_with (Ok x) h = absurd h
left_with (Err d) h = ap Err h

-- ---- verdict after verdict: f k is that of item k, and there are n of them
module _ (f : ℕ → Verdict) where
  -- one of those from k on, where f k is fine and so are those that follow
  here : (k : ℕ) → f k ≡ Ok tt → (j : ℕ) → k ≤ j → (suc k ≤ j → f j ≡ Ok tt) → (b : Bool) → ltb k j ≡ b → f j ≡ Ok tt
  here k e j low later true t = later (omega (arith, ltb-true k j t))
  here k e j low later false t = let z : j ≡ k = omega (arith, ltb-false k j t) in rw z e

  each_from : (m k : ℕ) → first_refusal (listed_from f m k) ≡ Ok tt → (j : ℕ) → k ≤ j → j < k + m → f j ≡ Ok tt
  unfolding first_refusal listed_from
  each_from zero k e j low high = absurd (omega arith)
  each_from (suc m) k e j low high =
      let now = or_fine (f k) (first_refusal (listed_from f m (suc k))) e in
      here k now.0 j low (λ l. each_from m (suc k) now.1 j l (omega arith)) (ltb k j) refl

  -- none refuses, so each is fine
  pub each_fine : (n : ℕ) → first_refusal (listed f n) ≡ Ok tt → (j : ℕ) → j < n → f j ≡ Ok tt
  each_fine n e j h = each_from n 0 e j (omega arith) (omega arith)

-- What holds at k: the search goes on from k.
pub record Probed (f : ℕ → Verdict) (n k : ℕ) : Type 0 where
  pub within : k ≤ n
  pub ahead : first_refusal (listed_from f (n - k) k) ≡ first_refusal (listed f n)

module _ {f : ℕ → Verdict} {n : ℕ} where
  pub probed_start : Probed f n 0
  probed_start = let z : n - 0 ≡ n = omega arith in record { within = omega arith; ahead = rw z }

module _ {f : ℕ → Verdict} {n k : ℕ} where
  ahead_one : Probed f n k → k < n → first_refusal (listed f n) ≡ or_else (f k) (first_refusal (listed_from f (n - suc k) (suc k)))
  unfolding first_refusal listed_from
  ahead_one h lt = let z : n - k ≡ suc (n - suc k) = omega arith in sym h.ahead ∙ rw z

  pub probed_more : Probed f n k → k < n → Ok tt ≡ f k → Probed f n (k + 1)
  probed_more h lt e = record { within = omega arith; ahead = rw add-one (sym (rw (sym e) at (ahead_one h lt))) }

  pub probed_here : Probed f n k → k < n → {r : Refusal} → Err r ≡ f k → Err r ≡ first_refusal (listed f n)
  probed_here h lt e = sym (rw (sym e) at (ahead_one h lt))

  pub probed_none : Probed f n k → n ≤ k → Ok tt ≡ first_refusal (listed f n)
  unfolding first_refusal listed_from
  probed_none h le = let z : n - k ≡ 0 = omega arith in rw z at h.ahead
