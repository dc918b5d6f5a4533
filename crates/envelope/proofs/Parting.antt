-- Use for the search for the end of a stage: `Searched` is the loop's invariant. Each turn asks at one frame and learns of all before it, or of all after it, since times rise.
-- Assumes nothing.
use Rattle.std.proofs.Common.{◌≡◌, ℕ, ◌+◌, ◌^◌, ◌<◌, ◌≤◌, true, false, arith}
use lib.Ieee.{Float, lt}
use Rattle.ieee.specs.Numbers.{f32}
use Rattle.osc.specs.Phase.{seconds}
use Rattle.dsl.specs.Domain.{Rate, Frames}
use Rattle.envelope.specs.Stages.{Parted}
use Rattle.envelope.proofs.Rising.{before_true, after_false}

-- The frames below `low` are before the end, and those from `high` on are not.
pub record Searched (rate : ℕ) (end : Float) (from n low high : ℕ) : Type 0 where
  pub least : from ≤ low
  pub between : low ≤ high
  pub most : high ≤ n
  pub before : (i : ℕ) → from ≤ i → i < low → lt (seconds (f32 rate) i) end ≡ true
  pub after : (i : ℕ) → high ≤ i → i < n → lt (seconds (f32 rate) i) end ≡ false

pub searched_none : {rate : ℕ} {end : Float} {from n : ℕ} → from ≤ n → Searched rate end from n from n
searched_none {rate} {end} {from} {n} h = record { least = omega arith; between = h; most = omega arith; before = λ i l m. absurd (none from i l m); after = λ i l m. absurd (none n i l m) }
  where
    none : (a i : ℕ) → a ≤ i → i < a → ⊥
    none a i l m = omega arith

module _ {rate : ℕ} {end : Float} {from n low high : ℕ} (r : Rate rate) (frames : Frames n) (h : Searched rate end from n low high) (m : ℕ) (l : low ≤ m) (u : m < high) where
  fits : (i : ℕ) → i < n → i ≤ 2 ^ 24
  fits i g = omega (arith, frames.most)

  pub searched_up : lt (seconds (f32 rate) m) end ≡ true → Searched rate end from n (m + 1) high
  searched_up t = record {
    least = omega (arith, h.least);
    between = omega arith;
    most = h.most;
    before = λ i g k. before_true rate r end i m (fits m (omega (arith, h.most))) (omega arith) t;
    after = h.after;
  }

  pub searched_down : lt (seconds (f32 rate) m) end ≡ false → Searched rate end from n low m
  searched_down t = record {
    least = h.least;
    between = l;
    most = omega (arith, h.most);
    before = h.before;
    after = λ i g k. after_false rate r end m i (fits i k) g t;
  }

pub searched_all : {rate : ℕ} {end : Float} {from n low high : ℕ} → Searched rate end from n low high → high ≤ low → Parted (λ i. lt (seconds (f32 rate) i) end) from n low
searched_all {low = low} {high = high} h e =
    record { least = h.least; most = omega (arith, h.between, h.most); before = h.before; after = λ i g k. h.after i (omega arith) k }
