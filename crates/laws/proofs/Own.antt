-- Use where a voice reads only its own frames: readings f and f' that agree at every frame below n give the same n samples, whatever the voice makes of them.
-- Assumes nothing.
use Prim.Native.Nat.{ℕ, zero, suc, ◌<◌}
use mathlib.Core.Path.{◌≡◌, refl, ap}
use mathlib.Core.List.{[], ◌∷◌, ◌++◌}
use native.Mathlib.Omega.{arith}
use native.Mathlib.Nat.{zero-lt-suc}
use Rattle.laws.specs.Run.{state_at, samples}

-- two functions agree below n
abbrev pub Below : {Y : Type 0} → (ℕ → Y) → (ℕ → Y) → ℕ → Type 0
Below f f' n = (i : ℕ) → i < n → f i ≡ f' i

-- a voice whose step i reads f at i alone
module _ {X S O Y : Type 0} (step : X → ℕ → S → O) (sample : O → Y) (state : O → S) (s₀ : S) (f f' : ℕ → X) where
  before : (ℕ → X) → ℕ → S
  before g n = state_at (λ i. step (g i) i) sample state s₀ n

  out_same : (n : ℕ) → f n ≡ f' n → before f n ≡ before f' n → step (f n) n (before f n) ≡ step (f' n) n (before f' n)
  out_same n e h = λ j. step (e j) n (h j)

  before_same : (n : ℕ) → Below f f' n → before f n ≡ before f' n
  unfolding before state_at
  before_same zero h = refl
  before_same (suc n) h = ap state (out_same n (h n (omega arith)) (before_same n (λ i l. h i (omega arith))))

  pub own_frames : (n : ℕ) → Below f f' n → samples (λ i. step (f i) i) sample state s₀ n ≡ samples (λ i. step (f' i) i) sample state s₀ n
  unfolding before samples
  own_frames zero h = refl
  own_frames (suc n) h =
      let below : Below f f' n = λ i l. h i (omega arith) in
      let last : step (f n) n (before f n) ≡ step (f' n) n (before f' n) = out_same n (h n (omega arith)) (before_same n below) in
      λ j. own_frames n below j ++ (sample (last j) ∷ [])

-- what is made of the first reading and n, where no reading matters for n = 0
pub own_first : {X Z : Type 0} (make : X → ℕ → Z) → ((x y : X) → make x 0 ≡ make y 0) → (f f' : ℕ → X) (n : ℕ) → Below f f' n → make (f 0) n ≡ make (f' 0) n
own_first make none f f' zero h = none (f 0) (f' 0)
own_first {X} {Z} make none f f' (suc n) h = ap (λ (x : X). make x (suc n)) (h 0 (zero-lt-suc n))
