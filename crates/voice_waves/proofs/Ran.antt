-- For a voice whose second loop reads a table: its invariant by what is read at each frame. No function here needs it; it stands as it landed (it stood in `blocks/proofs/Block`). Assumes nothing.
use Prim.Native.Nat.{ℕ, ◌+◌, ◌≤◌, ◌<◌}
use mathlib.Core.Path.{◌≡◌, refl, ap, ◌∙◌, subst}
use mathlib.Core.List.{List}
use native.Mathlib.Omega.{arith}
use lib.ListN.{length, set, length-set}
use Rattle.laws.proofs.Fill.{Filled, filled_more, filled_length}

-- From the frame `from` on, with what is read at each frame: what holds at frame i of the second loop. Whatever frames of whatever voice stood before `from`, they are now there up to i.
pub record Ran {A S O Y : Type 0} (by : A → ℕ → S → O) (sample : O → Y) (state : O → S) (read : ℕ → A) (from end : ℕ) (out₀ : List Y) (t : S) (i : ℕ) (out : List Y) (s : S) : Type 0 where
  pub least : from ≤ i
  pub most : i ≤ end
  pub kept : length out ≡ length out₀
  pub on : (of : ℕ → A) (s₀ : S) (l₀ : List Y) → ((k : ℕ) → from ≤ k → k < end → read k ≡ of k)
      → Filled (λ i. by (of i) i) sample state s₀ l₀ from out₀ t → Filled (λ i. by (of i) i) sample state s₀ l₀ i out s

module _ {A S O Y : Type 0} {by : A → ℕ → S → O} {sample : O → Y} {state : O → S} {read : ℕ → A} {from end : ℕ} {out₀ : List Y} {t : S} where
  pub ran_none : from ≤ end → Ran by sample state read from end out₀ t from out₀ t
  ran_none h = record { least = omega arith; most = h; kept = refl; on = λ of s₀ l₀ g f. f }

  pub ran_more :
      {i : ℕ} {out : List Y} {s : S} {r : O} →
      Ran by sample state read from end out₀ t i out s →
      i < end →
      end ≤ length out₀ →
      r ≡ by (read i) i s →
      Ran by sample state read from end out₀ t (i + 1) (set out i (sample r)) (state r)
  ran_more {i} {out} {s} {r} h lt fits e = record {
    least = omega (arith, h.least);
    most = omega arith;
    kept = rw length-set h.kept;
    on = λ of s₀ l₀ g f. filled_more (h.on of s₀ l₀ g f) (below (length out₀) (length l₀) (filled_length f) fits) (e ∙ ap (λ (x : A). by x i s) (g i h.least lt));
  }
    where
      below : (m n : ℕ) → m ≡ n → end ≤ m → i < n
      below m n z h = omega arith

  pub ran_all : {i : ℕ} {out : List Y} {s : S} → Ran by sample state read from end out₀ t i out s → end ≤ i → Ran by sample state read from end out₀ t end out s
  ran_all {i} {out} {s} h le = subst (λ (k : ℕ). Ran by sample state read from end out₀ t k out s) (same i end h.most le) h
    where
      same : (i n : ℕ) → i ≤ n → n ≤ i → i ≡ n
      same i n h g = omega arith
