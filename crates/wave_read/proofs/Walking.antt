-- From chunk to chunk. Assumes nothing.
use Prim.Native.Nat.{ℕ, zero, suc, ◌+◌, ◌*◌, ◌%◌, ◌≤◌}
use mathlib.Core.Path.{◌≡◌, refl, sym, ap, ◌∙◌}
use mathlib.Core.List.{List, [], ◌∷◌}
use native.Mathlib.Omega.{arith}
use Rattle.std.specs.Prelude.{Option, Some, None, Result, Ok, Err}
use lib.ListN.{length, take, drop, drop_of_length-le}
use lib.Seq.{drop-drop}
use Rattle.laws.proofs.If.{if_true, if_false}
use Rattle.wave_file.specs.Bytes.{field_at}
use Rattle.wave_file.specs.Chunk.{ck_size, ck_data, chunk_length}
use Rattle.wave_file.specs.Refusal.{FileResult, accepted}
use Rattle.wave_file.specs.declared.refusal.FileRefusal.{FileRefusal}
use Rattle.wave_file.specs.declared.refusal.FileRefusal.TheVariants.{Structure}
use Rattle.wave_read.specs.Reading.{Wave, samples_in, data_chunk, chunk_in, walk}
use Rattle.wave_read.specs.Walked.{step_in, Stepped, Finds}
use Rattle.wave_read.specs.declared.chunks.Met.{Met}
use Rattle.wave_read.specs.declared.walk.Place.{Place}
use Rattle.wave_read.proofs.Judging.{other, same, field_in}
use Rattle.wave_read.proofs.Bits.{samples_within}

-- bytes of a chunk are passed over
walk_ahead : (k : ℕ) (met : Met) (bs : List ℕ) → walk k met bs ≡ walk 0 met (drop k bs)
unfolding walk
walk_ahead zero met bs = refl
walk_ahead (suc k) met [] = refl
walk_ahead (suc k) met (b ∷ bs) = walk_ahead k met bs

-- `drop` past the chunk at the start of some bytes
past : (b : ℕ) (bs : List ℕ) (size : ℕ) (met : Met) → walk 0 met (drop (chunk_length size) (b ∷ bs)) ≡ walk (7 + size + size % 2) met bs
past b bs size met =
    let z : chunk_length size ≡ suc (7 + size + size % 2) = omega arith in
    rw z (sym (walk_ahead (7 + size + size % 2) met bs))

walk_none : (met : Met) (next : Met → FileResult Wave) → chunk_in met [] next ≡ walk 0 met []
unfolding walk chunk_in
walk_none met next = refl

-- where no byte is left, there is no header either
pub walk_next : (cs : List ℕ) (met : Met) → chunk_in met cs (λ (after : Met). walk 0 after (drop (chunk_length (ck_size cs)) cs)) ≡ walk 0 met cs
unfolding walk
walk_next [] met = walk_none met (λ (after : Met). walk 0 after (drop (chunk_length (ck_size [])) []))
walk_next (b ∷ bs) met = λ j. chunk_in met (b ∷ bs) (λ (after : Met). past b bs (ck_size (b ∷ bs)) after j)

module _ (file : List ℕ) (at : ℕ) where
  abbrev c : List ℕ
  c = drop at file

  abbrev pub behind : ℕ
  behind = at + chunk_length (ck_size c)

  -- the walk at the chunk that begins at `at`
  walk_chunk : (met : Met) → chunk_in met c (λ (after : Met). walk 0 after (drop behind file)) ≡ walk 0 met c
  walk_chunk met = (λ j. chunk_in met c (λ (after : Met). walk 0 after (sym (drop-drop (chunk_length (ck_size c)) at file) j))) ∙ walk_next c met

  module _ {met : Met} {step : Result (Option Met) FileRefusal} (s : Stepped file at met step) where
    stepped : step_in step (λ (after : Met). walk 0 after (drop behind file)) (data_chunk met.rate met.count c) ≡ walk 0 met c
    stepped = s.is (λ (after : Met). walk 0 after (drop behind file)) ∙ walk_chunk met

    pub fault_here : (r : FileRefusal) → step ≡ Err r → {result : FileResult Wave} → walk 0 met c ≡ result → Finds file (Err r) result
    fault_here r e inv = record { is = (rw e at stepped) ∙ inv; reach = omega arith }

    pub data_fits : step ≡ Ok None → at + (8 + ck_size c) ≤ length file
    data_fits e = rw e at s.reach

    pub data_here : step ≡ Ok None → {found : Result Place FileRefusal} → Finds file found (data_chunk met.rate met.count c) → {result : FileResult Wave} → walk 0 met c ≡ result
        → Finds file found result
    data_here e f inv = record { is = f.is ∙ (rw e at stepped) ∙ inv; reach = f.reach }

    pub next_fits : (after : Met) → step ≡ Ok (Some after) → at + (8 + ck_size c) ≤ length file
    next_fits after e = rw e at s.reach

    pub next_here : (after : Met) → step ≡ Ok (Some after) → {next : ℕ} → next ≡ behind → {result : FileResult Wave} → walk 0 met c ≡ result
        → walk 0 after (drop next file) ≡ result
    next_here after e n inv = rw n ((rw e at stepped) ∙ inv)

-- no data chunk was met
pub walk_end : (file : List ℕ) (at : ℕ) (met : Met) → length file ≤ at → {result : FileResult Wave} → walk 0 met (drop at file) ≡ result → Finds file (Err Structure) result
unfolding walk
walk_end file at met h inv = record { is = rw (drop_of_length-le file h) at inv; reach = omega arith }

-- ---- the data chunk
module _ (file : List ℕ) (at : ℕ) where
  abbrev d : List ℕ
  d = drop at file

  pub no_rate : {rate : Option ℕ} → rate ≡ None → (count : Option ℕ) → Finds file (Err Structure) (data_chunk rate count d)
  unfolding data_chunk
  no_rate e count = record { is = rw e; reach = omega arith }

  module _ {rate : Option ℕ} (r : ℕ) (e : rate ≡ Some r) where
    pub no_count : {count : Option ℕ} → count ≡ None → Finds file (Err Structure) (data_chunk rate count d)
    unfolding data_chunk
    no_count f = record { is = rw (e, f); reach = omega arith }

    module _ {count : Option ℕ} (n : ℕ) (f : count ≡ Some n) {size : ℕ} (s : size ≡ field_at 4 (at + 4) file) where
      sized : ck_size d ≡ size
      sized = sym (s ∙ field_in 4 4 at file)

      pub unlike_fact : (size ≡ 4 * n → ⊥) → Finds file (Err Structure) (data_chunk rate count d)
      unfolding data_chunk
      unlike_fact h = record { is = rw (e, f) (if_true _ (other _ _ (λ x. h (sym sized ∙ x))) refl); reach = omega arith }

      pub like_fact : size ≡ 4 * n → at + (8 + ck_size d) ≤ length file → Finds file (Ok (record { rate = r; count = n; start = at + 8 })) (data_chunk rate count d)
      unfolding data_chunk
      like_fact h l =
          let long : ck_size d ≡ 4 * n = sized ∙ h in
          let whole : samples_in n (drop (at + 8) file) ≡ samples_in n (ck_data d) =
          sym (ap (λ (k : ℕ). samples_in n (take k (drop 8 d))) long ∙ samples_within n (drop 8 d) ∙ ap (samples_in n) (drop-drop 8 at file)) in record {
            is = rw (e, f) (if_false _ (same _ _ long) (ap (λ (l : List ℕ). accepted (record { rate = r; samples = l })) whole));
            reach = omega arith;
          }
