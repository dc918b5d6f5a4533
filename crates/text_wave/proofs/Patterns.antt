-- The loop that puts the frames' patterns: `Filled` with `pattern frames` as its step. Assumes nothing.
use Prim.Native.Nat.{ℕ, zero, suc, ◌≤◌}
use mathlib.Core.Path.{◌≡◌, refl, sym, ap, ◌∙◌}
use mathlib.Core.List.{List, [], ◌∷◌, ◌++◌, map, map-append}
use native.Mathlib.Omega.{arith}
use lib.ListN.{length, get_or, take, length-map}
use lib.Seq.{take-suc, take-length, take_at}
use lib.Ieee.{Float, nan}
use Rattle.laws.specs.Run.{samples}
use Rattle.text_listing.specs.Lines.{frame_bits}

module _ (frames : List Float) where
  -- pattern i, with no state to speak of
  abbrev pub pattern : ℕ → ℕ → ℕ
  pattern i u = frame_bits (get_or frames i nan)

  some : (n : ℕ) → n ≤ length frames → samples pattern (λ y. y) (λ y. 0) 0 n ≡ map frame_bits (take n frames)
  unfolding samples
  some zero h = refl
  some (suc n) h =
      ap (λ (k : List ℕ). k ++ (pattern n 0 ∷ [])) (some n (omega arith))
      ∙ sym (ap (map frame_bits) (take-suc frames n nan (omega arith)) ∙ map-append frame_bits (take n frames) (get_or frames n nan ∷ []))

  pub all : samples pattern (λ y. y) (λ y. 0) 0 (length frames) ≡ map frame_bits frames
  all = some (length frames) (omega arith) ∙ ap (map frame_bits) (take-length frames)

-- what of a longer buffer is handed on
pub taken : (frames : List Float) (rest : List ℕ) → take (length frames) (map frame_bits frames ++ rest) ≡ map frame_bits frames
taken frames rest = take_at (map frame_bits frames) rest (length frames) (length-map frames frame_bits)
