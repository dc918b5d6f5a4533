-- Use for a loop over blocks of frames, whose next block begins where the one before it ends. Assumes nothing.
use Prim.Native.Nat.{ℕ, ◌+◌, ◌-◌, ◌≤◌, ◌<◌}
use mathlib.Core.Path.{◌≡◌, subst}
use mathlib.Core.Logic.{inl, inr}
use mathlib.Core.List.{List}
use native.Mathlib.Omega.{arith}
use Rattle.std.proofs.lemmas.Bool.{cases_lt}
use Rattle.laws.proofs.Fill.{Filled}

pub filled_to : {S O Y : Type 0} {step : ℕ → S → O} {sample : O → Y} {state : O → S} {s₀ : S} {l₀ : List Y} {i j : ℕ} {l : List Y} {s : S}
    → Filled step sample state s₀ l₀ i l s → i ≡ j → Filled step sample state s₀ l₀ j l s
filled_to {step = step} {sample = sample} {state = state} {s₀ = s₀} {l₀ = l₀} {l = l} {s = s} f e = subst (λ (k : ℕ). Filled step sample state s₀ l₀ k l s) e f

-- the block that begins no more than 64 frames before the end is the last
pub last_block : (i n : ℕ) {end : ℕ} → (end < n → end ≡ i + 64) → n - i ≤ 64 → n ≤ end
last_block i n {end} full few = elim (cases_lt end n) [ inl h ↦ absurd (over (full h) h) | inr h ↦ h ]
  where
    over : end ≡ i + 64 → end < n → ⊥
    over e h = omega (arith, few)
