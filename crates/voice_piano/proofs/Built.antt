-- The loop that makes a note's partials. `Built` is its invariant. Assumes nothing.
use Rattle.std.proofs.Common.{◌≡◌, ℕ, suc, ◌+◌, ◌-◌, ◌<◌, ◌≤◌, true, false, cond, List, [], ◌∷◌, ◌++◌, length, take, set, sym, refl, ◌∙◌, append_assoc, append-nil, add-one, arith}
use Rattle.std.proofs.Common.{length-set, take-suc-set}
use lib.Ieee.{Float, lt}
use Rattle.ieee.specs.Numbers.{c0·45}
use Rattle.ieee.specs.Binary32.{◌⊗◌}
use Rattle.voice_piano.specs.Hammer.{ratio_of, partial_of, partials_from, partials_of}
use Rattle.voice_piano.specs.declared.hammer.Blow.{Blow}
use Rattle.voice_piano.specs.declared.hammer.Partial.{Partial}

-- What holds at turn j: the first j items, and what is made from number j + 1 on, are the note's partials.
pub record Built (b : Blow) (srf : Float) (j : ℕ) (items : List Partial) : Type 0 where
  pub within : j ≤ 18
  pub room : length items ≡ 18
  pub ahead : take j items ++ partials_from b srf (18 - j) (j + 1) ≡ partials_of b srf

module _ {b : Blow} {srf : Float} where
  pub built_none : (items : List Partial) → length items ≡ 18 → Built b srf 0 items
  built_none items e = record { within = omega arith; room = e; ahead = refl }

  module _ {j : ℕ} {items : List Partial} (h : Built b srf j items) where
    abbrev ratio : Float
    ratio = ratio_of b.stretch (j + 1)

    ahead_one : j < 18 → take j items ++ cond (lt (c0·45 ⊗ srf) (ratio ⊗ b.f0)) [] (partial_of b srf (j + 1) ratio ∷ partials_from b srf (18 - suc j) (suc (j + 1))) ≡ partials_of b srf
    unfolding partials_from
    ahead_one l = let z : 18 - j ≡ suc (18 - suc j) = omega arith in rw z at h.ahead

    pub built_here : j < 18 → lt (c0·45 ⊗ srf) (ratio ⊗ b.f0) ≡ true → take j items ≡ partials_of b srf
    built_here l e = sym (append-nil (take j items)) ∙ rw e at (ahead_one l)

    pub built_more : {p : Partial} → j < 18 → lt (c0·45 ⊗ srf) (ratio ⊗ b.f0) ≡ false → p ≡ partial_of b srf (j + 1) ratio → Built b srf (j + 1) (set items j p)
    built_more {p} l e made =
        let n : j < length items = omega (arith, h.room) in
        let w : suc (j + 1) ≡ suc j + 1 = omega arith in
        record {
          within = omega arith;
          room = rw length-set h.room;
          ahead = rw (add-one, take-suc-set items j p n, append_assoc, made) (rw (e, w) at (ahead_one l));
        }

    pub built_all : 18 ≤ j → take j items ≡ partials_of b srf
    unfolding partials_from
    built_all l = let z : 18 - j ≡ 0 = omega arith in sym (append-nil (take j items)) ∙ rw z at h.ahead
