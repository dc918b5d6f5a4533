-- Use for a loop that at turn i puts `rule i` of element i in its place: the mixer. `Updated` is the loop's invariant. Assumes nothing.
use Prim.Native.Nat.{ℕ, zero, suc, ◌+◌}
use mathlib.Core.Path.{◌≡◌, refl, ap, ◌∙◌}
use mathlib.Core.List.{List, [], ◌∷◌}
use native.Mathlib.Omega.{arith}
use native.Mathlib.Numerals.{add-one}
use lib.ListN.{length, get_or, set}
use Rattle.laws.specs.Update.{updated_from, updated}

module _ {Y : Type 0} (rule : ℕ → Y → Y) where
  pub updated_length : (j n : ℕ) (l : List Y) → length (updated_from rule j n l) ≡ length l
  unfolding updated_from
  updated_length j zero l = refl
  updated_length j (suc n) [] = refl
  updated_length j (suc n) (y ∷ ys) = ap suc (updated_length (suc j) n ys)

  -- what a turn reads is as it was at first
  pub updated_read : (j n : ℕ) (l : List Y) (d : Y) → get_or (updated_from rule j n l) n d ≡ get_or l n d
  unfolding updated_from
  updated_read j zero l d = refl
  updated_read j (suc n) [] d = refl
  updated_read j (suc n) (y ∷ ys) d = updated_read (suc j) n ys d

  set_updated : (j n : ℕ) (l : List Y) (d : Y) → set (updated_from rule j n l) n (rule (j + n) (get_or (updated_from rule j n l) n d)) ≡ updated_from rule j (suc n) l
  unfolding updated_from
  set_updated j zero [] d = refl
  set_updated j zero (y ∷ ys) d = let e : j + 0 ≡ j = omega arith in rw e
  set_updated j (suc n) [] d = refl
  set_updated j (suc n) (y ∷ ys) d = let e : j + suc n ≡ suc j + n = omega arith in rw e (ap (λ (l : List Y). rule j y ∷ l) (set_updated (suc j) n ys d))

-- What holds at turn n. (A record, so that a law's implicit arguments are read off it.)
pub record Updated {Y : Type 0} (rule : ℕ → Y → Y) (l₀ : List Y) (n : ℕ) (l : List Y) : Type 0 where
  pub frames : l ≡ updated rule n l₀

module _ {Y : Type 0} {rule : ℕ → Y → Y} {l₀ : List Y} where
  pub updated_none : Updated rule l₀ 0 l₀
  unfolding updated_from
  updated_none = record { frames = refl }

  pub updated_kept : {n : ℕ} {l : List Y} → Updated rule l₀ n l → length l ≡ length l₀
  updated_kept {n} h = ap length h.frames ∙ updated_length rule 0 n l₀

  pub updated_more : {n : ℕ} {l : List Y} {y : Y} → Updated rule l₀ n l → (d : Y) → y ≡ rule n (get_or l n d) → Updated rule l₀ (n + 1) (set l n y)
  updated_more {n} h d e =
      let z : 0 + n ≡ n = omega arith in
      record { frames = rw (e, h.frames, add-one) (rw z at (set_updated rule 0 n l₀ d)) }

  pub updated_all : {i n : ℕ} {l : List Y} → Updated rule l₀ i l → i ≡ n → l ≡ updated rule n l₀
  updated_all h e = h.frames ∙ ap (λ (n : ℕ). updated rule n l₀) e
