-- What each frame holds after the frames are cleared, and after a note is mixed into them. Cite it for the frames of a score. Assumes nothing.
use Rattle.std.proofs.Common.{◌≡◌, ℕ, zero, suc, ◌+◌, ◌-◌, ◌<◌, ◌≤◌, List, [], ◌∷◌, ◌++◌, length, get_or, take, drop, replicate, sym, refl, ap, ◌∙◌, add-one, arith, length-append}
use Rattle.std.proofs.Common.{length-drop, length-take, length-take-le, get_or-drop, get_or-take, get_or-append-add}
use lib.ListN.{length-replicate, get_or-replicate, replicate-append-replicate, get_or-append}
use lib.Ieee.{Float, nan}
use Rattle.laws.specs.Update.{updated_from}
use Rattle.laws.proofs.Update.{updated_length}
use Rattle.ieee.specs.Numbers.{c0}
use Rattle.dsl.specs.declared.knobs.Adsr.{Adsr}
use Rattle.mix.specs.Mix.{silence, gained, mixed, mixed_at}

-- an element that a rule reaches, and one that it does not reach
module _ {Y : Type 0} (rule : ℕ → Y → Y) (d : Y) where
  pub updated_within : (j n : ℕ) (l : List Y) (k : ℕ) → k < n → k < length l → get_or (updated_from rule j n l) k d ≡ rule (j + k) (get_or l k d)
  unfolding updated_from
  updated_within j zero l k h m = absurd (omega arith)
  updated_within j (suc n) [] k h m = absurd (omega arith)
  updated_within j (suc n) (y ∷ ys) zero h m = let e : j + 0 ≡ j = omega arith in rw e
  updated_within j (suc n) (y ∷ ys) (suc k) h m = let e : j + suc k ≡ suc j + k = omega arith in rw e (updated_within (suc j) n ys k (omega arith) (omega arith))

  pub updated_past : (j n : ℕ) (l : List Y) (k : ℕ) → n ≤ k → get_or (updated_from rule j n l) k d ≡ get_or l k d
  unfolding updated_from
  updated_past j zero l k h = refl
  updated_past j (suc n) [] k h = refl
  updated_past j (suc n) (y ∷ ys) zero h = absurd (omega arith)
  updated_past j (suc n) (y ∷ ys) (suc k) h = updated_past (suc j) n ys k (omega arith)

-- plus zeros, as the library has a list of one value
pub silence_replicated : (n : ℕ) → silence n ≡ replicate n c0
unfolding silence
silence_replicated zero = refl
silence_replicated (suc n) =
    ap (λ (l : List Float). l ++ (c0 ∷ [])) (silence_replicated n) ∙ replicate-append-replicate n 1 c0 ∙ ap (λ (k : ℕ). replicate k c0) (add-one n)

pub silence_length : (n : ℕ) → length (silence n) ≡ n
silence_length n = ap length (silence_replicated n) ∙ length-replicate n c0

pub silence_at : (n i : ℕ) (d : Float) → i < n → get_or (silence n) i d ≡ c0
silence_at n i d h = ap (λ (l : List Float). get_or l i d) (silence_replicated n) ∙ get_or-replicate n i c0 d h

-- the frames `out` after a note that starts at `start`; `len` is its whole length
module _ (start : ℕ) (note : List Float) (env : Adsr) (len rate : ℕ) (gain : Float) (out : List Float) where
  pub mixed_length : length (mixed_at start note env len rate gain out) ≡ length out
  unfolding mixed_at mixed
  mixed_length =
      length-append (take start out) (mixed note env len rate gain (drop start out))
      ∙ omega (arith, length-take start out, length-drop start out, updated_length (gained note env len rate gain) 0 (length note) (drop start out))

  pub mixed_before : {i : ℕ} → i < start → start ≤ length out → get_or (mixed_at start note env len rate gain out) i nan ≡ get_or out i nan
  unfolding mixed_at
  mixed_before {i} h s =
      get_or-append (take start out) (mixed note env len rate gain (drop start out)) nan i (omega (arith, length-take-le start out s)) ∙ get_or-take start out i nan h

  -- frame k from the start on is frame k of what the mixer was lent
  mixed_from : (k : ℕ) → start ≤ length out → get_or (mixed_at start note env len rate gain out) (start + k) nan ≡ get_or (mixed note env len rate gain (drop start out)) k nan
  unfolding mixed_at
  mixed_from k s =
      ap (λ (n : ℕ). get_or (take start out ++ mixed note env len rate gain (drop start out)) (n + k) nan) (sym (length-take-le start out s))
      ∙ get_or-append-add (take start out) (mixed note env len rate gain (drop start out)) k nan

  pub mixed_within : {j : ℕ} → start + length note ≤ length out → j < length note
      → get_or (mixed_at start note env len rate gain out) (start + j) nan ≡ gained note env len rate gain j (get_or out (start + j) nan)
  unfolding mixed
  mixed_within {j} s h =
      let z : 0 + j ≡ j = omega arith in
      mixed_from j (omega arith)
      ∙ updated_within (gained note env len rate gain) nan 0 (length note) (drop start out) j h (omega (arith, length-drop start out))
      ∙ rw (z, get_or-drop start out j nan)

  pub mixed_past : {i : ℕ} → start + length note ≤ i → start ≤ length out → get_or (mixed_at start note env len rate gain out) i nan ≡ get_or out i nan
  unfolding mixed
  mixed_past {i} h s =
      let e : start + (i - start) ≡ i = omega arith in
      rw e at
      (mixed_from (i - start) s
      ∙ updated_past (gained note env len rate gain) nan 0 (length note) (drop start out) (i - start) (omega arith)
      ∙ get_or-drop start out (i - start) nan)
