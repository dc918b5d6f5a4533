-- The tables of a block hold what its frames read, and the frames by what they read are the definition's. Assumes nothing.
use Prim.Native.Nat.{ℕ, ◌+◌, ◌-◌, ◌≤◌, ◌<◌}
use mathlib.Core.Path.{◌≡◌, refl, ap}
use mathlib.Core.List.{List}
use lib.ListN.{get_or}
use lib.Ieee.{Float, nan}
use Rattle.blocks.proofs.Block.{Tabled, tabled_from}
use Rattle.laws.specs.Run.{samples}
use Rattle.ieee.specs.Numbers.{c0, c0·01}
use Rattle.ieee.specs.Order.{clamp_of}
use Rattle.osc.specs.Phase.{increment}
use Rattle.voice_waves.specs.Plain.{sawtooth_at, sawtooth_frames, sine_at, sine_frames}
use Rattle.voice_waves.specs.Pulse.{c0·99, square_at, square_frames, triangle_at, triangle_frames}
use Rattle.voice_waves.specs.Block.{sawtooth_by, sine_by, PulseRead, square_by, triangle_by}

-- a table of 64 places made from one of a block's values, place by place
pub tabled_by : (g : Float → Float) {of : ℕ → Float} {from end : ℕ} {f l : List Float}
    → Tabled of nan from end f → Tabled (λ k. g (get_or f k nan)) nan 0 64 l → end ≤ from + 64 → Tabled (λ i. g (of i)) nan from end l
tabled_by g {of} {from} {end} t s le = tabled_from (λ i. g (of i)) from end s le (λ k h m. ap g (t.at k h m))

pub sawtooth_frames_lem : (f : ℕ → Float) (srf : Float) (n : ℕ) → samples (λ i. sawtooth_by (increment (f i) srf)) (λ r. r.sample) (λ r. r.state) c0 n ≡ sawtooth_frames f srf n
unfolding sawtooth_frames sawtooth_at sawtooth_by
sawtooth_frames_lem f srf n = refl

pub sine_frames_lem : (f : ℕ → Float) (srf : Float) (n : ℕ) → samples (λ i. sine_by (increment (f i) srf)) (λ r. r.sample) (λ r. r.state) c0 n ≡ sine_frames f srf n
unfolding sine_frames sine_at sine_by
sine_frames_lem f srf n = refl

pub triangle_frames_lem : (f : ℕ → Float) (srf : Float) (n : ℕ)
    → samples (λ i. triangle_by (increment (f i) srf)) (λ r. r.sample) (λ r. r.state) (record { phase = c0; tri = c0 }) n ≡ triangle_frames f srf n
unfolding triangle_frames triangle_at triangle_by
triangle_frames_lem f srf n = refl

module _ (f d : ℕ → Float) (srf : Float) where
  -- what a frame of the square reads
  abbrev pub read_at : ℕ → PulseRead
  read_at i = record { step = increment (f i) srf; width = clamp_of (d i) c0·01 c0·99 }

  pub read_is : {from end : ℕ} {dt w : List Float} → Tabled (λ i. increment (f i) srf) nan from end dt → Tabled (λ i. clamp_of (d i) c0·01 c0·99) nan from end w
      → (k : ℕ) → from ≤ k → k < end → ◌≡◌ {A = PulseRead} (record { step = get_or dt (k - from) nan; width = get_or w (k - from) nan }) (read_at k)
  read_is t u k h l = λ j. record { step = t.at k h l j; width = u.at k h l j }

  pub square_frames_lem : (n : ℕ) → samples (λ i. square_by (read_at i)) (λ r. r.sample) (λ r. r.state) c0 n ≡ square_frames f d srf n
  unfolding square_frames square_at square_by
  square_frames_lem n = refl
