-- The ways in which writing ends. Assumes nothing.
use Prim.Native.Nat.{ℕ, ◌+◌, ◌*◌, ◌<◌, ◌≤◌}
use mathlib.Core.Path.{◌≡◌, refl, sym, ap, ◌∙◌}
use mathlib.Core.List.{List}
use mathlib.Core.Bool.{Bool, true, false, cond}
use native.Mathlib.Nat.{zero-add}
use borrow.Author.Tests.{lt-ltb, le-ltb, ltb-false}
use lib.ListN.{length}
use lib.Dec.{ltb}
use Rattle.laws.proofs.If.{if_true, if_false}
use Rattle.wave_file.specs.Bytes.{Placed}
use Rattle.wave_file.specs.Refusal.{FileResult, refused, accepted, part_of, number_of}
use Rattle.wave_file.specs.declared.refusal.FileRefusal.{FileRefusal}
use Rattle.wave_write.specs.Header.{wave_file}
use Rattle.wave_write.specs.Write.{write_result, file_after, Wrote}
use Rattle.std.specs.Prelude.{Err, Ok}
use Rattle.wave_write.proofs.Files.{file_length}

module _ (rate : ℕ) (samples : List ℕ) (room : ℕ) where
  pub rate_low : rate < 8000 → refused 1 ≡ write_result rate samples room
  unfolding write_result
  rate_low h = if_true _ (lt-ltb _ _ h) refl

  module _ (l : 8000 ≤ rate) where
    pub rate_high : 192000 < rate → refused 1 ≡ write_result rate samples room
    unfolding write_result
    rate_high h = if_false _ (le-ltb _ _ l) (if_true _ (lt-ltb _ _ h) refl)

    module _ (m : rate ≤ 192000) where
      pub many : 16777216 < length samples → refused 2 ≡ write_result rate samples room
      unfolding write_result
      many h = if_false _ (le-ltb _ _ l) (if_false _ (le-ltb _ _ m) (if_true _ (lt-ltb _ _ h) refl))

      module _ (n : length samples ≤ 16777216) where
        pub short : room < 58 + 4 * length samples → refused 23 ≡ write_result rate samples room
        unfolding write_result
        short h =
            let g : room < length (wave_file rate samples) = rw file_length h in
            if_false _ (le-ltb _ _ l) (if_false _ (le-ltb _ _ m) (if_false _ (le-ltb _ _ n) (if_true _ (lt-ltb _ _ g) refl)))

        pub whole : 58 + 4 * length samples ≤ room → accepted (wave_file rate samples) ≡ write_result rate samples room
        unfolding write_result
        whole h =
            let g : length (wave_file rate samples) ≤ room = rw file_length h in
            if_false _ (le-ltb _ _ l) (if_false _ (le-ltb _ _ m) (if_false _ (le-ltb _ _ n) (if_false _ (le-ltb _ _ g) refl)))

module _ {rate : ℕ} {samples file₀ : List ℕ} where
  pub wrote_nothing : (r : FileRefusal) → refused (number_of r) ≡ write_result rate samples (length file₀) → Wrote rate samples file₀ (Err r) file₀
  wrote_nothing r e = record { answer = ap (part_of length) e; bytes = ap (file_after file₀) e }

  pub wrote_file : {file : List ℕ} → accepted (wave_file rate samples) ≡ write_result rate samples (length file₀) → Placed (wave_file rate samples) 0 file₀ file
      → Wrote rate samples file₀ (Ok (58 + 4 * length samples)) file
  wrote_file e p = record {
    answer = ap accepted (sym (file_length rate samples)) ∙ ap (part_of length) e;
    bytes = p.is ∙ rw zero-add (ap (file_after file₀) e);
  }

-- ---- for a caller
-- a call that wrote passed every test
passed : (b : Bool) (x n : ℕ) (r : FileResult (List ℕ)) → accepted n ≡ part_of length (cond b (refused x) r) → (b ≡ false) × (accepted n ≡ part_of length r)
passed true x n r e = (cc, cc)
passed false x n r e = (refl, e)

pub record Passed (rate : ℕ) (samples : List ℕ) (room n : ℕ) : Type 0 where
  pub rate_most : rate ≤ 192000
  pub count_most : length samples ≤ 16777216
  pub is : write_result rate samples room ≡ accepted (wave_file rate samples)
  pub long : n ≡ length (wave_file rate samples)
  pub fits : n ≤ room

pub wrote_passed : (rate : ℕ) (samples : List ℕ) (room n : ℕ) → accepted n ≡ part_of length (write_result rate samples room) → Passed rate samples room n
unfolding write_result
wrote_passed rate samples room n e =
    let f = accepted (wave_file rate samples) in
    let last = cond (ltb room (length (wave_file rate samples))) (refused 23) f in
    let third = cond (ltb 16777216 (length samples)) (refused 2) last in
    let second = cond (ltb 192000 rate) (refused 1) third in
    let p₁ = passed (ltb rate 8000) 1 n second e in
    let p₂ = passed (ltb 192000 rate) 1 n third p₁.1 in
    let p₃ = passed (ltb 16777216 (length samples)) 2 n last p₂.1 in
    let p₄ = passed (ltb room (length (wave_file rate samples))) 23 n f p₃.1 in
    let size : n ≡ length (wave_file rate samples) = cc p₄.1 in record {
      rate_most = ltb-false _ _ p₂.0;
      count_most = ltb-false _ _ p₃.0;
      is = sym (if_false _ p₁.0 (if_false _ p₂.0 (if_false _ p₃.0 (if_false _ p₄.0 refl))));
      long = size;
      fits = rw size (ltb-false _ _ p₄.0);
    }
