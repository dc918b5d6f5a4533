-- The ways in which reading ends. Assumes nothing.
use Prim.Native.Nat.{ℕ, ◌+◌, ◌*◌, ◌-◌, ◌≤◌, ◌<◌}
use mathlib.Core.Path.{◌≡◌, refl, sym, ap, ◌∙◌}
use mathlib.Core.List.{List, ◌++◌}
use mathlib.Core.Bool.{Bool, true, false, cond}
use native.Mathlib.Omega.{arith}
use Rattle.std.specs.Prelude.{None, Result, Ok, Err}
use borrow.Author.Tests.{lt-ltb, le-ltb, ltb-false}
use lib.ListN.{length, drop}
use lib.Dec.{ltb}
use Rattle.laws.proofs.If.{if_true, if_false}
use Rattle.wave_file.specs.Bytes.{field_at}
use Rattle.wave_file.specs.Chunk.{RIFF, WAVE}
use Rattle.wave_file.specs.Refusal.{FileResult, refused, accepted, part_of}
use Rattle.wave_file.specs.declared.refusal.FileRefusal.{FileRefusal}
use Rattle.wave_file.specs.declared.refusal.FileRefusal.TheVariants.{Structure, Room}
use Rattle.wave_read.specs.Reading.{Wave, samples_in, walk, reading}
use Rattle.wave_read.specs.Read.{within, read_result, Extent, extent_of, read_in, samples_after, Reads}
use Rattle.wave_read.specs.Walked.{Finds}
use Rattle.wave_read.specs.declared.walk.Place.{Place}
use Rattle.wave_read.specs.declared.read.Samples.{Samples}
use Rattle.wave_read.proofs.Judging.{other, same}
use Rattle.wave_read.proofs.Bits.{samples_count}

-- ---- the start of a file
module _ (file : List ℕ) where
  broken : refused 37 ≡ reading file → Finds file (Err Structure) (reading file)
  broken e = record { is = e; reach = omega arith }

  pub too_short : length file < 12 → Finds file (Err Structure) (reading file)
  unfolding reading
  too_short h = broken (if_true _ (lt-ltb _ _ h) refl)

  module _ (l : 12 ≤ length file) {v₁ : ℕ} (e₁ : v₁ ≡ field_at 4 0 file) where
    pub not_riff : (v₁ ≡ RIFF → ⊥) → Finds file (Err Structure) (reading file)
    unfolding reading
    not_riff h = broken (if_false _ (le-ltb _ _ l) (if_true _ (other _ _ (λ x. h (e₁ ∙ x))) refl))

    module _ (r : v₁ ≡ RIFF) {v₂ : ℕ} (e₂ : v₂ ≡ field_at 4 4 file) where
      pub not_size : (v₂ ≡ length file - 8 → ⊥) → Finds file (Err Structure) (reading file)
      unfolding reading
      not_size h = broken (if_false _ (le-ltb _ _ l) (if_false _ (same _ _ (sym e₁ ∙ r)) (if_true _ (other _ _ (λ x. h (e₂ ∙ x))) refl)))

      module _ (s : v₂ ≡ length file - 8) {v₃ : ℕ} (e₃ : v₃ ≡ field_at 4 8 file) where
        pub not_wave : (v₃ ≡ WAVE → ⊥) → Finds file (Err Structure) (reading file)
        unfolding reading
        not_wave h = broken (if_false _ (le-ltb _ _ l) (if_false _ (same _ _ (sym e₁ ∙ r)) (if_false _ (same _ _ (sym e₂ ∙ s)) (if_true _ (other _ _ (λ x. h (e₃ ∙ x))) refl))))

        pub begun : v₃ ≡ WAVE → {found : Result Place FileRefusal} → Finds file found (walk 0 (record { rate = None; count = None }) (drop 12 file)) → Finds file found (reading file)
        unfolding reading
        begun w f = record {
          is = if_false _ (le-ltb _ _ l) (if_false _ (same _ _ (sym e₁ ∙ r)) (if_false _ (same _ _ (sym e₂ ∙ s)) (if_false _ (same _ _ (sym e₃ ∙ w)) f.is)));
          reach = f.reach;
        }

-- ---- the call
abbrev wave_at : Place → List ℕ → Wave
wave_at p file = record { rate = p.rate; samples = samples_in p.count (drop p.start file) }

module _ {file : List ℕ} {found : Result Place FileRefusal} (f : Finds file found (reading file)) where
  found_as : (p : Place) → found ≡ Ok p → accepted (wave_at p file) ≡ reading file
  found_as p e = rw e at f.is

  pub read_reach : (p : Place) → found ≡ Ok p → p.start + 4 * p.count ≤ length file
  read_reach p e = rw e at f.reach

  module _ {samples₀ : List ℕ} where
    by : {result : FileResult Wave} → result ≡ read_result file (length samples₀) → {said : Result Samples FileRefusal} → read_in said ≡ part_of extent_of result → {samples : List ℕ}
        → samples ≡ samples_after samples₀ result → Reads file samples₀ said samples
    by e a b = record { answer = a ∙ ap (part_of extent_of) e; bits = b ∙ ap (samples_after samples₀) e }

    pub read_broken : (r : FileRefusal) → found ≡ Err r → Reads file samples₀ (Err r) samples₀
    unfolding within
    read_broken r e = by (ap (within (length samples₀)) (rw e at f.is)) refl refl

    module _ (p : Place) (e : found ≡ Ok p) where
      pub read_short : length samples₀ < p.count → Reads file samples₀ (Err Room) samples₀
      unfolding within
      read_short h =
          let g : length samples₀ < length (samples_in p.count (drop p.start file)) = rw samples_count h in
          by (if_true _ (lt-ltb _ _ g) refl ∙ ap (within (length samples₀)) (found_as p e)) refl refl

      pub read_all : p.count ≤ length samples₀ → {samples : List ℕ} → samples ≡ samples_in p.count (drop p.start file) ++ drop p.count samples₀
          → Reads file samples₀ (Ok (record { rate = p.rate; count = p.count })) samples
      unfolding within
      read_all h b =
          let n : length (samples_in p.count (drop p.start file)) ≡ p.count = samples_count p.count (drop p.start file) in
          let g : length (samples_in p.count (drop p.start file)) ≤ length samples₀ = rw samples_count h in
          by (if_false _ (le-ltb _ _ g) refl ∙ ap (within (length samples₀)) (found_as p e))
          (ap (λ (k : ℕ). accepted (record { rate = p.rate; count = k })) (sym n))
          (b ∙ ap (λ (k : ℕ). samples_in p.count (drop p.start file) ++ drop k samples₀) (sym n))

-- ---- for a caller
-- what was read fits the sample buffer
fits_if : (b : Bool) (x room : ℕ) (w : Wave) (e : Extent) → (b ≡ false → length w.samples ≤ room) → accepted e ≡ part_of extent_of (cond b (refused x) (accepted w)) → e.count ≤ room
fits_if true x room w e h q = let z : ◌≡◌ {A = ℕ} 0 1 = cc in omega arith
fits_if false x room w e h q = let s : e ≡ extent_of w = cc in rw s (h refl)

fits_within : (room : ℕ) (r : FileResult Wave) (e : Extent) → accepted e ≡ part_of extent_of (within room r) → e.count ≤ room
unfolding within
fits_within room (refused number) e q = let z : ◌≡◌ {A = ℕ} 0 1 = cc in omega arith
fits_within room (accepted w) e q = fits_if (ltb room (length w.samples)) 23 room w e (ltb-false room (length w.samples)) q

pub samples_fit : {file samples₀ samples : List ℕ} {said : Result Samples FileRefusal} → Reads file samples₀ said samples → (s : Samples) → said ≡ Ok s → s.count ≤ length samples₀
samples_fit {file} {samples₀} r s e =
    fits_within (length samples₀) (reading file) (record { rate = s.rate; count = s.count }) ((ap read_in (sym e)) ∙ r.answer)
