-- A curve and its lane's end. Use at each frame of a voice, and where 12 is judged. Assumes nothing.
use Prim.Native.Nat.{ℕ, ◌+◌, ◌-◌, ◌*◌, ◌/◌, ◌≤◌, ◌<◌}
use mathlib.Core.Path.{◌≡◌, refl, sym, ap, ◌∙◌}
use mathlib.Core.Bool.{Bool, true, false, not}
use native.Mathlib.Omega.{arith}
use native.Mathlib.Nat.{div-lt_iff_lt-mul, div-one}
use borrow.Author.Tests.{lt-ltb, le-ltb, ltb-true, ltb-false, le-leb, lt-leb, not-false}
use lib.Dec.{ltb, leb, leb→le, le→leb}
use Rattle.ieee.proofs.Value.{same_test}
use Rattle.dsl.specs.Pitch.{is_curve, reading, passes, reaches}
use Rattle.dsl.specs.declared.pitch.Pitch.{Pitch}
use Rattle.dsl.specs.declared.pitch.Pitch.TheVariants.{Const, Curve}
use Rattle.dsl.specs.declared.pitch.Reading.{Reading}

-- the last place of n frames is one of the lane
within_lane : (offset h l n : ℕ) → passes (Curve offset) h l n ≡ false → offset + (n - 1) / h < l
within_lane offset h l n r = ltb-true _ _ (not-false _ r)

pub within_is : (offset h l n : ℕ) → offset + (n - 1) / h < l → passes (Curve offset) h l n ≡ false
within_is offset h l n lt = ap not (lt-ltb _ _ lt)

-- a quotient grows with what is divided
quotient_le : (h x y : ℕ) → 1 ≤ h → x ≤ y → x / h ≤ y / h
quotient_le h x y some le =
    let above : y < (y / h + 1) * h = (div-lt_iff_lt-mul some).0 (omega arith) in
    let under : x / h < y / h + 1 = (div-lt_iff_lt-mul some).1 (omega (arith, above)) in
    omega arith

-- a number passes no lane's end
pub number_passes : (p : Pitch) (h l n : ℕ) → is_curve p ≡ false → passes p h l n ≡ false
unfolding is_curve
number_passes (Const x) h l n r = refl
number_passes (Curve offset) h l n r = cc

-- fewer frames pass no more
pub passes_less : (p : Pitch) (h l n m : ℕ) → 1 ≤ h → passes p h l n ≡ false → m ≤ n → passes p h l m ≡ false
passes_less (Const x) h l n m some r le = refl
passes_less (Curve offset) h l n m some r le =
    let places = quotient_le h (m - 1) (n - 1) some (omega arith) in
    within_is offset h l m (omega (arith, places, within_lane offset h l n r))

-- a pitch that reaches n frames of a lane reaches fewer
pub reaches_less : (r : Reading) (l n m : ℕ) → reaches r l n → m ≤ n → reaches r l m
reaches_less r l n m reached le =
    record { is = reached.is; least = reached.least; most = reached.most; few = omega (arith, reached.few); within = passes_less r.pitch r.hop l n m reached.least reached.within le }

-- a slice, as a curve from its first value on that has a value each frame, reaches its own length
pub reaches_own : (l n : ℕ) → 0 < n → n ≤ l → n ≤ 16777216 → reaches (reading (Curve 0) 1) l n
reaches_own l n some le few =
    let place : 0 + (n - 1) / 1 ≡ n - 1 = ap (λ (x : ℕ). 0 + x) (div-one (n - 1)) ∙ omega arith in
    record { is = refl; least = omega arith; most = omega arith; few = few; within = within_is 0 1 l n (omega (arith, place)) }

-- where frame i reads
pub reached_within : (r : Reading) (offset l i : ℕ) → r.pitch ≡ Curve offset → reaches r l (i + 1) → offset + i / r.hop < l
reached_within r offset l i is reached =
    let same : i + 1 - 1 ≡ i = omega arith in
    rw same at (within_lane offset r.hop l (i + 1) (rw is at reached.within))

-- a place that is not within, by the order the other way
turned_round : (a b : ℕ) (t : Bool) → ltb a b ≡ t → leb b a ≡ not t
turned_round a b true e = lt-leb b a (ltb-true a b e)
turned_round a b false e = le-leb b a (ltb-false a b e)

-- whether the end is passed, with no sum that could overflow
module _ (offset h l n : ℕ) where
  pub too_long : l ≤ (n - 1) / h → true ≡ passes (Curve offset) h l n
  too_long le = sym (ap not (le-ltb _ _ (let z : l ≤ offset + (n - 1) / h = omega arith in z)))

  pub too_far : (n - 1) / h < l → leb (l - (n - 1) / h) offset ≡ passes (Curve offset) h l n
  too_far lt =
      let q = (n - 1) / h in
      same_test (leb (l - q) offset) (leb l (offset + q)) (λ t. le→leb l (offset + q) (omega (arith, leb→le (l - q) offset t))) (λ t. le→leb (l - q) offset (omega (arith, leb→le l (offset + q) t)))
      ∙ turned_round (offset + q) l (ltb (offset + q) l) refl
