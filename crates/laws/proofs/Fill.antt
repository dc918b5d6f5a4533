-- Use for a loop that at turn i writes the `sample` of `step i s` at index i and puts its `state` for s: every voice. `Filled` is the loop's invariant;
-- `filled_none` starts it, `filled_more` is a turn, `filled_frames` and `filled_state` end it. Proved for any state and any step. Assumes nothing.
use Prim.Native.Nat.{ℕ, zero, suc, ◌+◌, ◌≤◌, ◌<◌}
use mathlib.Core.Path.{◌≡◌, refl, sym, ap, ◌∙◌}
use mathlib.Core.List.{List, [], ◌∷◌, ◌++◌, append-nil, append_assoc}
use native.Mathlib.Omega.{arith}
use native.Mathlib.Numerals.{add-one}
use lib.ListN.{length, get_or, set, drop, length-append, length-drop, drop_of_length-le}
use lib.Seq.{drop-cons, set_at}
use Rattle.laws.specs.Run.{state_at, samples, sample_at}

module _ {S O Y : Type 0} (step : ℕ → S → O) (sample : O → Y) (state : O → S) (s₀ : S) where
  pub samples_length : (n : ℕ) → length (samples step sample state s₀ n) ≡ n
  unfolding samples
  samples_length zero = refl
  samples_length (suc n) = length-append (samples step sample state s₀ n) (sample_at step sample state s₀ n ∷ []) ∙ omega (arith, samples_length n)

-- What holds at turn i: the frames below i are the voice's, those from i on are as they were, and s is the state before frame i.
pub record Filled {S O Y : Type 0} (step : ℕ → S → O) (sample : O → Y) (state : O → S) (s₀ : S) (l₀ : List Y) (i : ℕ) (l : List Y) (s : S) : Type 0 where
  pub within : i ≤ length l₀
  pub frames : l ≡ samples step sample state s₀ i ++ drop i l₀
  pub reached : s ≡ state_at step sample state s₀ i

module _ {S O Y : Type 0} {step : ℕ → S → O} {sample : O → Y} {state : O → S} {s₀ : S} {l₀ : List Y} where
  pub filled_none : Filled step sample state s₀ l₀ 0 l₀ s₀
  unfolding samples state_at
  filled_none = record { within = omega arith; frames = refl; reached = refl }

  pub filled_length : {i : ℕ} {l : List Y} {s : S} → Filled step sample state s₀ l₀ i l s → length l ≡ length l₀
  filled_length {i} h =
      ap length h.frames ∙ length-append (samples step sample state s₀ i) (drop i l₀)
      ∙ omega (arith, samples_length step sample state s₀ i, length-drop i l₀, h.within)

  pub filled_more : {i : ℕ} {l : List Y} {s : S} {r : O} → Filled step sample state s₀ l₀ i l s → i < length l₀ → r ≡ step i s → Filled step sample state s₀ l₀ (i + 1) (set l i (sample r)) (state r)
  unfolding samples state_at
  filled_more {i} {l} {s} {r} h lt e =
      let y = sample r in
      let A = samples step sample state s₀ i in
      let R = drop (suc i) l₀ in
      let meant_step : r ≡ step i (state_at step sample state s₀ i) = e ∙ ap (step i) h.reached in
      let written : set l i y ≡ A ++ y ∷ R =
      ap (λ (k : List Y). set k i y) (h.frames ∙ ap (λ (k : List Y). A ++ k) (drop-cons l₀ i y lt)) ∙ set_at A (get_or l₀ i y) R y i (samples_length step sample state s₀ i) in
      let meant : samples step sample state s₀ (suc i) ++ R ≡ A ++ y ∷ R =
      append_assoc A (sample_at step sample state s₀ i ∷ []) R ∙ ap (λ (v : O). A ++ sample v ∷ R) (sym meant_step) in
      record {
        within = omega arith;
        frames = rw add-one (written ∙ sym meant);
        reached = rw add-one (ap state meant_step);
      }

  -- the same where the code holds the sample and the state's parts apart
  pub filled_more_parts :
      {i : ℕ} {l : List Y} {s : S} {y : Y} {t : S} →
      Filled step sample state s₀ l₀ i l s →
      i < length l₀ →
      y ≡ sample (step i s) →
      t ≡ state (step i s) →
      Filled step sample state s₀ l₀ (i + 1) (set l i y) t
  filled_more_parts h lt ey et = rw (ey, et) (filled_more h lt refl)

  -- at the end, n being the number of frames
  pub filled_frames : {i n : ℕ} {l : List Y} {s : S} → Filled step sample state s₀ l₀ i l s → length l₀ ≤ i → length l₀ ≡ n → l ≡ samples step sample state s₀ n
  filled_frames {i} {n} h e m =
      let k : i ≡ n = omega (arith, h.within) in
      h.frames ∙ rw (drop_of_length-le l₀ e, append-nil) (ap (samples step sample state s₀) k)

  pub filled_state : {i n : ℕ} {l : List Y} {s : S} → Filled step sample state s₀ l₀ i l s → length l₀ ≤ i → length l₀ ≡ n → s ≡ state_at step sample state s₀ n
  filled_state {i} {n} h e m =
      let k : i ≡ n = omega (arith, h.within) in
      h.reached ∙ ap (state_at step sample state s₀) k

  -- where the loop stops at n, which may be short of the end
  pub filled_part : {i n : ℕ} {l : List Y} {s : S} → Filled step sample state s₀ l₀ i l s → i ≡ n → l ≡ samples step sample state s₀ n ++ drop n l₀
  filled_part h e = h.frames ∙ ap (λ (k : ℕ). samples step sample state s₀ k ++ drop k l₀) e
