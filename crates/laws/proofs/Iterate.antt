-- Use for a part of a loop's state that moves by a rule of its own, whatever the rest does: a voice's generator. It is the rule iterated. Assumes nothing.
use Prim.Native.Nat.{ℕ, zero, suc}
use mathlib.Core.Path.{◌≡◌, refl, ap, ◌∙◌}
use Rattle.laws.specs.Run.{state_at, iterate}

module _ {S O Y T : Type 0} (step : ℕ → S → O) (sample : O → Y) (state : O → S) (part : S → T) (rule : ℕ → T → T) where
  pub part_iterated : ((i : ℕ) (s : S) → part (state (step i s)) ≡ rule i (part s)) → (s₀ : S) (n : ℕ) → part (state_at step sample state s₀ n) ≡ iterate rule (part s₀) n
  unfolding state_at iterate
  part_iterated moved s₀ zero = refl
  part_iterated moved s₀ (suc n) = moved n (state_at step sample state s₀ n) ∙ ap (rule n) (part_iterated moved s₀ n)
