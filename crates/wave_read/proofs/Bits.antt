-- Samples of four bytes each. `bits` is the step of the loop that copies them (`Filled`). Assumes nothing.
use Prim.Native.Nat.{ℕ, zero, suc, ◌+◌, ◌*◌}
use mathlib.Core.Path.{◌≡◌, refl, sym, ap, ◌∙◌}
use mathlib.Core.List.{List, [], ◌∷◌, ◌++◌}
use native.Mathlib.Omega.{arith}
use lib.ListN.{length, take, drop}
use lib.Seq.{drop-drop, take-take, take-nil}
use Rattle.laws.specs.Run.{samples}
use Rattle.wave_file.specs.Bytes.{number_in, field_at}
use Rattle.wave_read.specs.Reading.{samples_in}

pub samples_count : (n : ℕ) (bs : List ℕ) → length (samples_in n bs) ≡ n
unfolding samples_in
samples_count zero bs = refl
samples_count (suc n) bs = ap suc (samples_count n (drop 4 bs))

drop_take : (k m : ℕ) (l : List ℕ) → drop k (take (k + m) l) ≡ take m (drop k l)
drop_take zero m l = let z : 0 + m ≡ m = omega arith in rw z
drop_take (suc k) m [] = let z : suc k + m ≡ suc (k + m) = omega arith in rw (z, take-nil m)
drop_take (suc k) m (b ∷ l) = let z : suc k + m ≡ suc (k + m) = omega arith in rw z (drop_take k m l)

-- no byte past the samples is looked at
pub samples_within : (n : ℕ) (bs : List ℕ) → samples_in n (take (4 * n) bs) ≡ samples_in n bs
unfolding samples_in
samples_within zero bs = refl
samples_within (suc n) bs =
    let z : 4 * suc n ≡ 4 + 4 * n = omega arith in
    let here : take 4 (take (4 + 4 * n) bs) ≡ take 4 bs = take-take 4 (4 + 4 * n) bs (omega arith) in
    rw (z, here, drop_take 4 (4 * n) bs, samples_within n (drop 4 bs))

samples_last : (n : ℕ) (bs : List ℕ) → samples_in (suc n) bs ≡ samples_in n bs ++ (field_at 4 (4 * n) bs ∷ [])
unfolding samples_in
samples_last zero bs = refl
samples_last (suc n) bs =
    let z : 4 + 4 * n ≡ 4 * suc n = omega arith in
    let there : field_at 4 (4 * n) (drop 4 bs) ≡ field_at 4 (4 * suc n) bs = ap (λ (l : List ℕ). number_in (take 4 l)) (drop-drop (4 * n) 4 bs ∙ ap (λ (k : ℕ). drop k bs) z) in
    ap (λ (l : List ℕ). field_at 4 0 bs ∷ l) (samples_last n (drop 4 bs) ∙ ap (λ (x : ℕ). samples_in n (drop 4 bs) ++ (x ∷ [])) there)

module _ (file : List ℕ) (start : ℕ) where
  -- sample i, with no state to speak of
  abbrev pub bits : ℕ → ℕ → ℕ
  bits i u = field_at 4 (start + 4 * i) file

  pub copied : (n : ℕ) → samples bits (λ y. y) (λ y. 0) 0 n ≡ samples_in n (drop start file)
  unfolding samples samples_in
  copied zero = refl
  copied (suc n) =
      let e : field_at 4 (start + 4 * n) file ≡ field_at 4 (4 * n) (drop start file) = ap (λ (l : List ℕ). number_in (take 4 l)) (sym (drop-drop (4 * n) start file)) in
      ap (λ (l : List ℕ). l ++ (bits n 0 ∷ [])) (copied n) ∙ ap (λ (x : ℕ). samples_in n (drop start file) ++ (x ∷ [])) e ∙ sym (samples_last n (drop start file))
