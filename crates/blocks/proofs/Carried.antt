-- Use for a voice or a drum in blocks. `Carried` is the contract of a block and of each part of a note: the frames from one on and before a later one are as the step makes them. A loop that
-- stores a sample a turn has it for its invariant (`carried_more`); where a loop advances the state over the block first, and a second one stores the samples, it is `carried_part`.
-- `on` carries the note's `Filled` on, by the step or by any other that agrees with it on these frames, as one that reads a table does. Proved for any state and any step. Assumes nothing.
use Prim.Native.Nat.{ℕ, zero, suc, ◌+◌, ◌-◌, ◌≤◌, ◌<◌}
use mathlib.Core.Path.{◌≡◌, refl, ap, ◌∙◌, subst}
use mathlib.Core.List.{List}
use native.Mathlib.Omega.{arith}
use native.Mathlib.Numerals.{add-one}
use lib.ListN.{length, set, length-set}
use Rattle.laws.specs.Run.{samples, iterate}
use Rattle.laws.proofs.Fill.{Filled, filled_none, filled_more, filled_more_parts, filled_length, filled_frames}
use Rattle.blocks.specs.Stored.{stored}

-- two steps agree on the frames from `from` on and before `to`
abbrev pub Agree : {S O : Type 0} → (ℕ → S → O) → (ℕ → S → O) → ℕ → ℕ → Type 0
Agree {S} step other from to = (k : ℕ) → from ≤ k → k < to → (s : S) → step k s ≡ other k s

pub record Carried {S O Y : Type 0} (step : ℕ → S → O) (sample : O → Y) (state : O → S) (from to : ℕ) (out₀ : List Y) (t : S) (out : List Y) (s : S) : Type 0 where
  pub least : from ≤ to
  pub kept : length out ≡ length out₀
  pub on : (other : ℕ → S → O) (s₀ : S) (l₀ : List Y) → Agree step other from to → Filled other sample state s₀ l₀ from out₀ t → Filled other sample state s₀ l₀ to out s

module _ {S O Y : Type 0} {step : ℕ → S → O} {sample : O → Y} {state : O → S} {from : ℕ} {out₀ : List Y} {t : S} where
  pub carried_none : Carried step sample state from from out₀ t out₀ t
  carried_none = record { least = omega arith; kept = refl; on = λ other s₀ l₀ a f. f }

  pub carried_then :
      {mid to : ℕ} {out out' : List Y} {s s' : S} →
      Carried step sample state from mid out₀ t out s →
      Carried step sample state mid to out s out' s' →
      Carried step sample state from to out₀ t out' s'
  carried_then {mid} {to} h g = record {
    least = under h.least g.least;
    kept = g.kept ∙ h.kept;
    on = λ other s₀ l₀ a f. g.on other s₀ l₀ (λ k m n. a k (later k m) n) (h.on other s₀ l₀ (λ k m n. a k m (earlier k n)) f);
  }
    where
      under : from ≤ mid → mid ≤ to → from ≤ to
      under a b = omega arith

      later : (k : ℕ) → mid ≤ k → from ≤ k
      later k m = omega (arith, h.least)

      earlier : (k : ℕ) → k < mid → k < to
      earlier k n = omega (arith, g.least)

  -- one frame
  pub carried_more :
      {i : ℕ} {out : List Y} {s : S} {r : O} →
      Carried step sample state from i out₀ t out s →
      i < length out₀ →
      r ≡ step i s →
      Carried step sample state from (i + 1) out₀ t (set out i (sample r)) (state r)
  carried_more {i} {s = s} h lt e = record {
    least = omega (arith, h.least);
    kept = rw length-set h.kept;
    on = λ other s₀ l₀ a f. filled_more (h.on other s₀ l₀ (λ k m n. a k m (earlier k n)) f) (below (length out₀) (length l₀) (filled_length f) lt) (e ∙ a i h.least last s);
  }
    where
      below : (m n : ℕ) → m ≡ n → i < m → i < n
      below m n z h = omega arith

      earlier : (k : ℕ) → k < i → k < i + 1
      earlier k n = omega arith

      last : i < i + 1
      last = omega arith

  pub carried_all : {i to : ℕ} {out : List Y} {s : S} → Carried step sample state from i out₀ t out s → i ≡ to → Carried step sample state from to out₀ t out s
  carried_all {out = out} {s = s} h e = subst (λ (k : ℕ). Carried step sample state from k out₀ t out s) e h

-- ---- a block: the state goes on as `iterate` has it, and the samples are stored after it
pub stored_length : {Y : Type 0} (of : ℕ → Y) (from n : ℕ) (l : List Y) → length (stored of from n l) ≡ length l
unfolding stored
stored_length of from zero l = refl
stored_length of from (suc n) l = length-set (stored of from n l) (from + n) (of n) ∙ stored_length of from n l

-- the loop that stores them: k of n are stored
pub record Storing {Y : Type 0} (of : ℕ → Y) (from n k : ℕ) (l₀ l : List Y) : Type 0 where
  pub within : k ≤ n
  pub is : l ≡ stored of from k l₀

module _ {Y : Type 0} {of : ℕ → Y} {from n : ℕ} {l₀ : List Y} where
  pub storing_none : Storing of from n 0 l₀ l₀
  unfolding stored
  storing_none = record { within = omega arith; is = refl }

  pub storing_length : {k : ℕ} {l : List Y} → Storing of from n k l₀ l → length l ≡ length l₀
  storing_length {k} h = ap length h.is ∙ stored_length of from k l₀

  pub storing_more : {k : ℕ} {l : List Y} {y : Y} → Storing of from n k l₀ l → k < n → y ≡ of k → Storing of from n (k + 1) l₀ (set l (from + k) y)
  unfolding stored
  storing_more {k} h lt e = record { within = omega arith; is = rw (add-one, h.is, e) }

  pub storing_all : {k : ℕ} {l : List Y} → Storing of from n k l₀ l → n ≤ k → l ≡ stored of from n l₀
  storing_all {k} h le = let e : k ≡ n = omega (arith, h.within) in h.is ∙ ap (λ (j : ℕ). stored of from j l₀) e

module _ {S O Y : Type 0} (step : ℕ → S → O) (sample : O → Y) (state : O → S) (from : ℕ) (t : S) where
  -- the state before frame k of the block
  abbrev pub reached : ℕ → S
  reached k = iterate (λ k s. state (step (from + k) s)) t k

  filled_on : (of : ℕ → Y) (n : ℕ) (out₀ : List Y) (s₀ : S) (l₀ : List Y) → from + n ≤ length l₀ → ((k : ℕ) → k < n → of k ≡ sample (step (from + k) (reached k)))
      → Filled step sample state s₀ l₀ from out₀ t → Filled step sample state s₀ l₀ (from + n) (stored of from n out₀) (reached n)
  unfolding stored iterate
  filled_on of zero out₀ s₀ l₀ h is f = subst (λ (k : ℕ). Filled step sample state s₀ l₀ k out₀ t) (none from) f
    where
      none : (m : ℕ) → m ≡ m + 0
      none m = omega arith
  filled_on of (suc n) out₀ s₀ l₀ h is f =
      subst (λ (k : ℕ). Filled step sample state s₀ l₀ k (set (stored of from n out₀) (from + n) (of n)) (state (step (from + n) (reached n)))) (next from n)
      (filled_more_parts (filled_on of n out₀ s₀ l₀ (less h) (λ k l. is k (later k l)) f) (below h) (is n (last n)) refl)
    where
      next : (m n : ℕ) → m + n + 1 ≡ m + suc n
      next m n = omega arith

      less : from + suc n ≤ length l₀ → from + n ≤ length l₀
      less h = omega arith

      below : from + suc n ≤ length l₀ → from + n < length l₀
      below h = omega arith

      later : (k : ℕ) → k < n → k < suc n
      later k l = omega arith

      last : (n : ℕ) → n < suc n
      last n = omega arith

-- ---- steps that agree reach the same states
module _ {S O Y : Type 0} (step other : ℕ → S → O) (sample : O → Y) (state : O → S) (from to : ℕ) (t : S) (agree : Agree step other from to) where
  reached_same : (k : ℕ) → from + k ≤ to → reached step sample state from t k ≡ reached other sample state from t k
  unfolding iterate
  reached_same zero h = refl
  reached_same (suc k) h =
      ap state (agree (from + k) (least from k) (under from to k h) (reached step sample state from t k) ∙ ap (other (from + k)) (reached_same k (less from to k h)))
    where
      least : (a k : ℕ) → a ≤ a + k
      least a k = omega arith

      under : (a b k : ℕ) → a + suc k ≤ b → a + k < b
      under a b k h = omega arith

      less : (a b k : ℕ) → a + suc k ≤ b → a + k ≤ b
      less a b k h = omega arith

module _ {S O Y : Type 0} (step : ℕ → S → O) (sample : O → Y) (state : O → S) (from : ℕ) (t : S) where
  pub carried_block : (of : ℕ → Y) (n : ℕ) {out₀ out : List Y} {s : S} → from + n ≤ length out₀ → ((k : ℕ) → k < n → of k ≡ sample (step (from + k) (reached step sample state from t k)))
      → out ≡ stored of from n out₀ → s ≡ reached step sample state from t n → Carried step sample state from (from + n) out₀ t out s
  carried_block of n {out₀ = out₀} h is e r = record {
    least = omega arith;
    kept = ap length e ∙ stored_length of from n out₀;
    on = λ other s₀ l₀ a f.
        let same = reached_same step other sample state from (from + n) t a in
        rw (e, r, same n (omega arith))
        (filled_on other sample state from t of n out₀ s₀ l₀ (under (length out₀) (length l₀) (filled_length f) h)
        (λ k l. is k l ∙ ap sample (a (from + k) (omega arith) (omega arith) _ ∙ ap (other (from + k)) (same k (omega arith)))) f);
  }
    where
      under : (m k : ℕ) → m ≡ k → from + n ≤ m → from + n ≤ k
      under m k z h = omega arith

  -- the same of the frames from `from` on and before `end`
  pub carried_part : (of : ℕ → Y) (end : ℕ) {out₀ out : List Y} {s : S} → from ≤ end → end ≤ length out₀
      → ((k : ℕ) → k < end - from → of k ≡ sample (step (from + k) (reached step sample state from t k))) → out ≡ stored of from (end - from) out₀ → s ≡ reached step sample state from t (end - from)
      → Carried step sample state from end out₀ t out s
  carried_part of end le room is e r = carried_all (carried_block of (end - from) (omega arith) is e r) (omega arith)

-- ---- a note from its first frame to its last
pub carried_note : {S O Y : Type 0} {step : ℕ → S → O} {sample : O → Y} {state : O → S} {s₀ : S} {l₀ : List Y} {n : ℕ} {out : List Y} {s : S}
    → Carried step sample state 0 n l₀ s₀ out s → length l₀ ≡ n → out ≡ samples step sample state s₀ n
carried_note {step = step} {s₀ = s₀} {l₀ = l₀} h e = filled_frames (h.on step s₀ l₀ (λ k m n s. refl) filled_none) (omega arith) e
