-- Use for a voice in blocks: what needs only the frame's number is worked out for a block of frames first, into an array, and the recurrence then reads it.
-- `Tabled` is the first loop's invariant, and at its end the function's contract. Proved for any values, any state and any step. Assumes nothing.
use Prim.Native.Nat.{ℕ, ◌+◌, ◌-◌, ◌≤◌, ◌<◌}
use mathlib.Core.Path.{◌≡◌, ap, ◌∙◌, subst}
use mathlib.Core.Logic.{◌⊎◌, inl, inr}
use mathlib.Core.List.{List}
use native.Mathlib.Nat.{eq-or-lt_of_le}
use native.Mathlib.Omega.{arith}
use lib.ListN.{length, get_or, set}
use lib.Seq.{get_or-set_same, get_or-set_other}
use Rattle.laws.proofs.Fill.{Filled}

-- the array holds `of k` for the frames k from a on and below i, from its place 0 on
pub record Tabled {Y : Type 0} (of : ℕ → Y) (d : Y) (a i : ℕ) (l : List Y) : Type 0 where
  pub at : (k : ℕ) → a ≤ k → k < i → get_or l (k - a) d ≡ of k

module _ {Y : Type 0} {of : ℕ → Y} {d : Y} {a : ℕ} where
  pub tabled_none : {l : List Y} → Tabled of d a a l
  tabled_none = record { at = λ k h l. absurd (none k h l) }
    where
      none : (k : ℕ) → a ≤ k → k < a → ⊥
      none k h l = omega arith

  pub tabled_more : {i : ℕ} {l : List Y} {y : Y} → Tabled of d a i l → a ≤ i → i - a < length l → y ≡ of i → Tabled of d a (i + 1) (set l (i - a) y)
  tabled_more {i} {l} {y} h le lt e = record { at = λ k g m. pick k g (eq-or-lt_of_le (less k m)) }
    where
      less : (k : ℕ) → k < i + 1 → k ≤ i
      less k m = omega arith

      apart : (k : ℕ) → a ≤ k → k < i → (k - a ≡ i - a) → ⊥
      apart k g m z = omega arith

      pick : (k : ℕ) → a ≤ k → (k ≡ i) ⊎ (k < i) → get_or (set l (i - a) y) (k - a) d ≡ of k
      pick k g (inl z) = rw z (get_or-set_same l (i - a) y d lt ∙ e)
      pick k g (inr m) = get_or-set_other l (i - a) (k - a) y d (apart k g m) ∙ h.at k g m

  pub tabled_all : {i end : ℕ} {l : List Y} → Tabled of d a i l → i ≡ end → Tabled of d a end l
  tabled_all {l = l} h e = subst (λ (k : ℕ). Tabled of d a k l) e h

-- a table from place 0 on
pub tabled_next : {Y : Type 0} {of : ℕ → Y} {d : Y} {i : ℕ} {l : List Y} {y : Y} → Tabled of d 0 i l → i < length l → y ≡ of i → Tabled of d 0 (i + 1) (set l i y)
tabled_next {of = of} {d = d} {i = i} {l = l} {y = y} h lt e =
    subst (λ (k : ℕ). Tabled of d 0 (i + 1) (set l k y)) (same i) (tabled_more h (omega arith) (omega arith) e)
  where
    same : (i : ℕ) → i - 0 ≡ i
    same i = omega arith

-- of a table of more frames, fewer
pub tabled_less : {Y : Type 0} {of : ℕ → Y} {d : Y} {a i : ℕ} {l : List Y} (j : ℕ) → Tabled of d a i l → j ≤ i → Tabled of d a j l
tabled_less {a = a} {i = i} j h le = record { at = λ k g m. h.at k g (lower k m) }
  where
    lower : (k : ℕ) → k < j → k < i
    lower k m = omega arith

same_place : (k : ℕ) → k ≡ k - 0
same_place k = omega arith

-- the value at a place of a table from place 0 on
pub tabled_at : {Y : Type 0} {of : ℕ → Y} {d : Y} {n : ℕ} {l : List Y} → Tabled of d 0 n l → (k : ℕ) → k < n → get_or l k d ≡ of k
tabled_at {d = d} {l = l} t k h = ap (λ (j : ℕ). get_or l j d) (same_place k) ∙ t.at k (omega arith) h

-- a table by another rule that gives the same
pub tabled_same : {Y : Type 0} {f g : ℕ → Y} {d : Y} {a i : ℕ} {l : List Y} → ((k : ℕ) → f k ≡ g k) → Tabled f d a i l → Tabled g d a i l
tabled_same same t = record { at = λ k h l. t.at k h l ∙ same k }

-- a table made from a table, place by place
pub tabled_through : {X Y : Type 0} {of : ℕ → X} (g : X → Y) {d : X} {e : Y} {n : ℕ} {z : List X} {out : List Y}
    → Tabled of d 0 n z → Tabled (λ k. g (get_or z k d)) e 0 n out → Tabled (λ k. g (of k)) e 0 n out
tabled_through g {d = d} {z = z} s t = record { at = λ k h l. t.at k h l ∙ ap g (ap (λ (j : ℕ). get_or z j d) (same_place k) ∙ s.at k h l) }

-- a table from place 0 on is one of the frames from `from` on
pub tabled_shift : {Y : Type 0} (of : ℕ → Y) (from n : ℕ) {d : Y} {l : List Y} → Tabled (λ k. of (from + k)) d 0 n l → Tabled of d from (from + n) l
tabled_shift of from n {d = d} {l = l} t =
    record { at = λ k h g. ap (λ (j : ℕ). get_or l j d) (same_place (k - from)) ∙ t.at (k - from) (omega arith) (omega arith) ∙ ap of (back k h) }
  where
    back : (k : ℕ) → from ≤ k → from + (k - from) ≡ k
    back k h = omega arith

-- and the other way round
pub tabled_unshift : {Y : Type 0} (of : ℕ → Y) (from n : ℕ) {d : Y} {l : List Y} → Tabled of d from (from + n) l → Tabled (λ k. of (from + k)) d 0 n l
tabled_unshift of from n {d = d} {l = l} t =
    record { at = λ k h g. ap (λ (j : ℕ). get_or l j d) (back k) ∙ t.at (from + k) (omega arith) (omega arith) }
  where
    back : (k : ℕ) → k - 0 ≡ from + k - from
    back k = omega arith

-- what a table of the frames from `from` on and before `end` holds at place k
pub tabled_frame : {Y : Type 0} {of : ℕ → Y} {d : Y} {from end : ℕ} {l : List Y} → Tabled of d from end l → (k : ℕ) → k < end - from → get_or l k d ≡ of (from + k)
tabled_frame {d = d} {from = from} {l = l} t k h = ap (λ (j : ℕ). get_or l j d) (back from k) ∙ t.at (from + k) (omega arith) (omega arith)
  where
    back : (from k : ℕ) → k ≡ from + k - from
    back from k = omega arith

-- what a table made place by place holds of the frames from `from` on and before `end`
pub tabled_from : {Y : Type 0} {g : ℕ → Y} {d : Y} {n : ℕ} {l : List Y} (of : ℕ → Y) (from end : ℕ)
    → Tabled g d 0 n l → end ≤ from + n → ((k : ℕ) → from ≤ k → k < end → g (k - from) ≡ of k) → Tabled of d from end l
tabled_from {d = d} {n = n} {l = l} of from end t le is =
    record { at = λ k h m. ap (λ (j : ℕ). get_or l j d) (same_place (k - from)) ∙ t.at (k - from) (omega arith) (omega arith) ∙ is k h m }

-- a place of a table from place 0 on
pub tabled_place : {Y : Type 0} {g : ℕ → Y} {d : Y} {n : ℕ} {l : List Y} → Tabled g d 0 n l → (k : ℕ) → k < n → get_or l k d ≡ g k
tabled_place {d = d} {l = l} t k m = ap (λ (j : ℕ). get_or l j d) (same_place k) ∙ t.at k (omega arith) m

-- what is filled by steps that are equal is filled by either
pub filled_as : {S O Y : Type 0} {step other : ℕ → S → O} {sample : O → Y} {state : O → S} {s₀ : S} {l₀ : List Y} {i : ℕ} {l : List Y} {s : S}
    → ((i : ℕ) (s : S) → step i s ≡ other i s) → Filled step sample state s₀ l₀ i l s → Filled other sample state s₀ l₀ i l s
filled_as {S} {O} {sample = sample} {state = state} {s₀ = s₀} {l₀ = l₀} {i = i} {l = l} {s = s} e f =
    subst (λ (by : ℕ → S → O). Filled by sample state s₀ l₀ i l s) (λ j i s. e i s j) f
