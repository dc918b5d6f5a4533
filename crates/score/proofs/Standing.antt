-- Where a note stands, at the straight tempo and under a tempo map. Use in place of the text of `place_of`. Assumes nothing.
use Prim.Native.Nat.{ℕ, ◌≤◌, max}
use mathlib.Core.Path.{◌≡◌, refl}
use mathlib.Core.Bool.{Bool, true, false, cond}
use lib.Dec.{eqb}
use lib.ListN.{length}
use lib.Ieee.{Float}
use Rattle.dsl.specs.Domain.{Frames}
use Rattle.dsl.specs.declared.pitch.Pitch.TheVariants.{Curve}
use Rattle.dsl.specs.declared.note.SeqNote.{SeqNote}
use Rattle.tempo.specs.Map.{points}
use Rattle.groove.specs.Humanize.{identity_of, seed_of, humanize_draws}
use Rattle.groove.specs.Timing.{human_delay, human_gain, groove_of}
use Rattle.groove.specs.Mapped.{end_step, human_delay64, mapped_of}
use Rattle.groove.specs.Length.{sounded_of}
use Rattle.groove.proofs.Room.{length_least, length_most, mapped_least, mapped_most, sounded_le}
use Rattle.score.specs.Score.{dur_of, straight_place, mapped_place, place_of}
use Rattle.score.specs.declared.place.Place.{Place}
use Rattle.score.specs.declared.seq.Timing.{Timing}

-- what holds of both holds of the one that is taken
either : (P : Place → Type 0) (b : Bool) (x y : Place) → P x → P y → P (cond b x y)
either P true x y p q = p
either P false x y p q = q

module _ (t : Timing) (n : ℕ) (m : SeqNote) where
  -- THE THEOREM: with no points the straight tempo plays
  pub straight : t.tempo_map.count ≡ 0 → place_of t n m ≡ straight_place t n m
  unfolding place_of
  straight e = rw e

  pub sounded_is : (place_of t n m).sounded ≡ sounded_of n (place_of t n m).start (place_of t n m).len
  unfolding place_of straight_place mapped_place
  sounded_is = either (λ p. p.sounded ≡ sounded_of n p.start p.len) (eqb (length (points t.tempo_map)) 0) (straight_place t n m) (mapped_place t n m) refl refl

  pub len_least : 1 ≤ (place_of t n m).len
  unfolding place_of straight_place mapped_place
  len_least = either (λ p. 1 ≤ p.len) (eqb (length (points t.tempo_map)) 0) (straight_place t n m) (mapped_place t n m) (length_least m.len (dur_of t) n) (mapped_least _ _ n)

  pub len_under : Frames n → (place_of t n m).len ≤ max n 1
  unfolding place_of straight_place mapped_place
  len_under h =
      either (λ p. p.len ≤ max n 1) (eqb (length (points t.tempo_map)) 0) (straight_place t n m) (mapped_place t n m) (length_most m.len (dur_of t) n h) (mapped_most _ _ n)

  pub sounded_most : (place_of t n m).sounded ≤ (place_of t n m).len
  sounded_most = rw sounded_is (sounded_le n (place_of t n m).start (place_of t n m).len)

-- ---- a note whose pitch is a curve
abbrev pub curved : ℕ → ℕ → ℕ → Float → SeqNote
curved step len offset gain = record { step = step; len = len; pitch = Curve offset; gain = gain }

-- where it stands does not depend on the curve's offset
pub stands_alike : (t : Timing) (n step len offset offset' : ℕ) (gain : Float) → place_of t n (curved step len offset gain) ≡ place_of t n (curved step len offset' gain)
unfolding place_of straight_place mapped_place groove_of mapped_of human_delay human_delay64 human_gain humanize_draws seed_of identity_of end_step
stands_alike t n step len offset offset' gain = refl
