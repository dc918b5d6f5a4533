-- Use for a part of a note that carries the voice's `Filled` on by its own step. What `blocks/proofs/Carried` says of a part holds of every step that agrees with its own: `carried_by` is this of it.
-- Proved for any state and any step. Assumes nothing.
use Prim.Native.Nat.{ℕ, ◌+◌, ◌≤◌, ◌<◌}
use mathlib.Core.Path.{◌≡◌, refl, ◌∙◌, subst}
use mathlib.Core.List.{List}
use native.Mathlib.Omega.{arith}
use lib.ListN.{length, set, length-set}
use Rattle.laws.specs.Run.{samples}
use Rattle.laws.proofs.Fill.{Filled, filled_none, filled_more, filled_length, filled_frames}
use Rattle.blocks.specs.Stored.{stored}
use Rattle.blocks.proofs.Carried as part

pub record Carried {S O Y : Type 0} (step : ℕ → S → O) (sample : O → Y) (state : O → S) (from to : ℕ) (out₀ : List Y) (t : S) (out : List Y) (s : S) : Type 0 where
  pub kept : length out ≡ length out₀
  pub on : (s₀ : S) (l₀ : List Y) → Filled step sample state s₀ l₀ from out₀ t → Filled step sample state s₀ l₀ to out s

module _ {S O Y : Type 0} {step : ℕ → S → O} {sample : O → Y} {state : O → S} {from : ℕ} {out₀ : List Y} {t : S} where
  pub carried_by : {to : ℕ} {out : List Y} {s : S} → part.Carried step sample state from to out₀ t out s → Carried step sample state from to out₀ t out s
  carried_by h = record { kept = h.kept; on = λ s₀ l₀ f. h.on step s₀ l₀ (λ k m n s. refl) f }

  pub carried_none : Carried step sample state from from out₀ t out₀ t
  carried_none = record { kept = refl; on = λ s₀ l₀ f. f }

  pub carried_then :
      {mid to : ℕ} {out out' : List Y} {s s' : S} →
      Carried step sample state from mid out₀ t out s →
      Carried step sample state mid to out s out' s' →
      Carried step sample state from to out₀ t out' s'
  carried_then h g = record { kept = g.kept ∙ h.kept; on = λ s₀ l₀ f. g.on s₀ l₀ (h.on s₀ l₀ f) }

  -- one frame
  pub carried_more :
      {i : ℕ} {out : List Y} {s : S} {r : O} →
      Carried step sample state from i out₀ t out s →
      i < length out₀ →
      r ≡ step i s →
      Carried step sample state from (i + 1) out₀ t (set out i (sample r)) (state r)
  carried_more {i} h lt e = record {
    kept = rw length-set h.kept;
    on = λ s₀ l₀ f. filled_more (h.on s₀ l₀ f) (below (length out₀) (length l₀) (filled_length f) lt) e;
  }
    where
      below : (m n : ℕ) → m ≡ n → i < m → i < n
      below m n z h = omega arith

  pub carried_all : {i to : ℕ} {out : List Y} {s : S} → Carried step sample state from i out₀ t out s → i ≡ to → Carried step sample state from to out₀ t out s
  carried_all {out = out} {s = s} h e = subst (λ (k : ℕ). Carried step sample state from k out₀ t out s) e h

module _ {S O Y : Type 0} (step : ℕ → S → O) (sample : O → Y) (state : O → S) (from : ℕ) (t : S) where
  pub carried_block : (of : ℕ → Y) (n : ℕ) {out₀ out : List Y} {s : S} → from + n ≤ length out₀
      → ((k : ℕ) → k < n → of k ≡ sample (step (from + k) (part.reached step sample state from t k)))
      → out ≡ stored of from n out₀ → s ≡ part.reached step sample state from t n → Carried step sample state from (from + n) out₀ t out s
  carried_block of n h is e r = carried_by (part.carried_block step sample state from t of n h is e r)

-- ---- a note from its first frame to its last
pub carried_note : {S O Y : Type 0} {step : ℕ → S → O} {sample : O → Y} {state : O → S} {s₀ : S} {l₀ : List Y} {n : ℕ} {out : List Y} {s : S}
    → Carried step sample state 0 n l₀ s₀ out s → length l₀ ≡ n → out ≡ samples step sample state s₀ n
carried_note {s₀ = s₀} {l₀ = l₀} h e = filled_frames (h.on s₀ l₀ filled_none) (omega arith) e
