-- Use at each return of the functions that judge one chunk at a place of a file. Assumes nothing.
use Prim.Native.Nat.{ℕ, ◌+◌, ◌-◌, ◌≤◌, ◌<◌}
use mathlib.Core.Path.{◌≡◌, refl, sym, ap, ◌∙◌}
use mathlib.Core.List.{List}
use mathlib.Core.Bool.{true, false, not}
use Rattle.std.specs.Prelude.{Option, Some, None, Result, Ok, Err}
use native.Mathlib.Omega.{arith}
use borrow.Author.Tests.{lt-ltb, le-ltb, eq-eqb, ne_eqb}
use lib.ListN.{length, take, drop, length-drop}
use lib.Seq.{drop-drop}
use lib.Dec.{eqb}
use Rattle.laws.proofs.If.{if_true, if_false}
use Rattle.wave_file.specs.Bytes.{number_in, field_at}
use Rattle.wave_file.specs.Chunk.{FMT, FACT, DATA, ck_id, ck_size}
use Rattle.wave_file.specs.Refusal.{FileResult, refused}
use Rattle.wave_file.specs.declared.refusal.FileRefusal.{FileRefusal}
use Rattle.wave_file.specs.declared.refusal.FileRefusal.TheVariants.{Structure}
use Rattle.wave_read.specs.Reading.{Wave, fmt_chunk, fact_chunk, chunk_in}
use Rattle.wave_read.specs.Walked.{Whole, met_in, step_in, step_reach, Stepped}
use Rattle.wave_read.specs.declared.chunks.Met.{Met}

pub other : (x y : ℕ) → (x ≡ y → ⊥) → not (eqb x y) ≡ true
other x y h = ap not (ne_eqb x y h)

pub same : (x y : ℕ) → x ≡ y → not (eqb x y) ≡ false
same x y h = ap not (eq-eqb x y h)

-- a field of a chunk, by its place in the file
pub field_in : (n k at : ℕ) (file : List ℕ) → field_at n (at + k) file ≡ field_at n k (drop at file)
field_in n k at file = ap (λ (l : List ℕ). number_in (take n l)) (sym (drop-drop k at file))

module _ (file : List ℕ) (at : ℕ) where
  abbrev c : List ℕ
  c = drop at file

  -- v is the field that the code read at a place of the file
  by_place : (n k : ℕ) {v : ℕ} → v ≡ field_at n (at + k) file → field_at n k c ≡ v
  by_place n k e = sym (field_in n k at file) ∙ sym e

  module _ {size : ℕ} (w : Whole file at size) (rate count : Option ℕ) (next : Met → FileResult Wave) where
    -- ---- fmt
    pub fmt_second : (r : ℕ) → rate ≡ Some r → refused 37 ≡ fmt_chunk rate count c next
    unfolding fmt_chunk
    fmt_second r e = rw e

    module _ (first : rate ≡ None) where
      pub fmt_size : (size ≡ 18 → ⊥) → refused 37 ≡ fmt_chunk rate count c next
      unfolding fmt_chunk
      fmt_size h = rw first (if_true _ (other _ _ (rw w.is at h)) refl)

      module _ (s : size ≡ 18) {v₁ : ℕ} (e₁ : v₁ ≡ field_at 2 (at + 8) file) where
        sized : not (eqb (ck_size c) 18) ≡ false
        sized = same _ _ (sym w.is ∙ s)

        pub fmt_tag : (v₁ ≡ 3 → ⊥) → refused 36 ≡ fmt_chunk rate count c next
        unfolding fmt_chunk
        fmt_tag h = rw first (if_false _ sized (if_true _ (other _ _ (λ g. h (sym (by_place 2 8 e₁) ∙ g))) refl))

        module _ (t : v₁ ≡ 3) {v₂ : ℕ} (e₂ : v₂ ≡ field_at 2 (at + 10) file) where
          tagged : not (eqb (field_at 2 8 c) 3) ≡ false
          tagged = same _ _ (by_place 2 8 e₁ ∙ t)

          pub fmt_channels : (v₂ ≡ 1 → ⊥) → refused 36 ≡ fmt_chunk rate count c next
          unfolding fmt_chunk
          fmt_channels h = rw first (if_false _ sized (if_false _ tagged (if_true _ (other _ _ (λ g. h (sym (by_place 2 10 e₂) ∙ g))) refl)))

          module _ (u : v₂ ≡ 1) {v₃ : ℕ} (e₃ : v₃ ≡ field_at 2 (at + 22) file) where
            mono : not (eqb (field_at 2 10 c) 1) ≡ false
            mono = same _ _ (by_place 2 10 e₂ ∙ u)

            pub fmt_width : (v₃ ≡ 32 → ⊥) → refused 36 ≡ fmt_chunk rate count c next
            unfolding fmt_chunk
            fmt_width h = rw first (if_false _ sized (if_false _ tagged (if_false _ mono (if_true _ (other _ _ (λ g. h (sym (by_place 2 22 e₃) ∙ g))) refl))))

            pub fmt_met : v₃ ≡ 32 → {v : ℕ} → v ≡ field_at 4 (at + 12) file → next (record { rate = Some v; count = count }) ≡ fmt_chunk rate count c next
            unfolding fmt_chunk
            fmt_met h e =
                rw first (if_false _ sized (if_false _ tagged (if_false _ mono (if_false _ (same _ _ (by_place 2 22 e₃ ∙ h))
                (ap (λ (x : ℕ). next (record { rate = Some x; count = count })) (sym (by_place 4 12 e)))))))

    -- ---- fact
    pub fact_second : (n : ℕ) → count ≡ Some n → refused 37 ≡ fact_chunk rate count c next
    unfolding fact_chunk
    fact_second n e = rw e

    module _ (first : count ≡ None) where
      pub fact_size : (size ≡ 4 → ⊥) → refused 37 ≡ fact_chunk rate count c next
      unfolding fact_chunk
      fact_size h = rw first (if_true _ (other _ _ (rw w.is at h)) refl)

      pub fact_met : size ≡ 4 → {v : ℕ} → v ≡ field_at 4 (at + 8) file → next (record { rate = rate; count = Some v }) ≡ fact_chunk rate count c next
      unfolding fact_chunk
      fact_met s e =
          rw first (if_false _ (same _ _ (sym w.is ∙ s)) (ap (λ (x : ℕ). next (record { rate = rate; count = Some x })) (sym (by_place 4 8 e))))

-- ---- any chunk
-- a chunk that comes before the samples, as a step
abbrev pub lifted : Result Met FileRefusal → Result (Option Met) FileRefusal
lifted (Err r) = Err r
lifted (Ok met) = Ok (Some met)

lifted_in : (said : Result Met FileRefusal) (next : Met → FileResult Wave) (here : FileResult Wave) → step_in (lifted said) next here ≡ met_in said next
lifted_in (Err r) next here = refl
lifted_in (Ok met) next here = refl

reach_most : (step : Result (Option Met) FileRefusal) (end : ℕ) → step_reach step end ≤ end
reach_most (Err r) end = omega arith
reach_most (Ok step) end = omega arith

module _ (file : List ℕ) (at : ℕ) (l : at ≤ length file) (met : Met) where
  pub step_cut : length file - at < 8 → Stepped file at met (Err Structure)
  unfolding chunk_in
  step_cut h =
      let m : length (drop at file) < 8 = rw (length-drop at file) h in
      record { is = λ next. if_true _ (lt-ltb _ _ m) refl; reach = omega arith }

  module _ (h : 8 ≤ length file - at) where
    long : 8 ≤ length (drop at file)
    long = rw (length-drop at file) h

    pub step_past : {size : ℕ} → size ≡ field_at 4 (at + 4) file → length file - at - 8 < size → Stepped file at met (Err Structure)
    unfolding chunk_in
    step_past e g =
        let m : length (drop at file) < 8 + ck_size (drop at file) = omega (arith, length-drop at file, field_in 4 4 at file) in
        record { is = λ next. if_false _ (le-ltb _ _ long) (if_true _ (lt-ltb _ _ m) refl); reach = omega arith }

    module _ {size : ℕ} (e : size ≡ field_at 4 (at + 4) file) (g : size ≤ length file - at - 8) where
      pub whole : Whole file at size
      whole = record { fits = omega arith; is = e ∙ field_in 4 4 at file }

      fits : at + (8 + ck_size (drop at file)) ≤ length file
      fits = omega (arith, whole.is)

      inside : 8 + ck_size (drop at file) ≤ length (drop at file)
      inside = omega (arith, fits, length-drop at file)

      module _ {name : ℕ} (i : name ≡ field_at 4 at file) where
        named : ck_id (drop at file) ≡ name
        named = sym i

        pub step_fmt : name ≡ FMT → (said : Result Met FileRefusal)
            → ((next : Met → FileResult Wave) → met_in said next ≡ fmt_chunk met.rate met.count (drop at file) next)
            → Stepped file at met (lifted said)
        unfolding chunk_in
        step_fmt n said s = record {
          is = λ next. if_false _ (le-ltb _ _ long) (if_false _ (le-ltb _ _ inside) (if_true _ (eq-eqb _ _ (named ∙ n)) (lifted_in said next _ ∙ s next)));
          reach = omega (arith, reach_most (lifted said) (at + (8 + ck_size (drop at file))), fits);
        }

        module _ (m : name ≡ FMT → ⊥) where
          unlike_fmt : eqb (ck_id (drop at file)) FMT ≡ false
          unlike_fmt = ne_eqb _ _ (λ x. m (i ∙ x))

          pub step_fact : name ≡ FACT → (said : Result Met FileRefusal)
              → ((next : Met → FileResult Wave) → met_in said next ≡ fact_chunk met.rate met.count (drop at file) next)
              → Stepped file at met (lifted said)
          unfolding chunk_in
          step_fact n said s = record {
            is = λ next. if_false _ (le-ltb _ _ long) (if_false _ (le-ltb _ _ inside) (if_false _ unlike_fmt (if_true _ (eq-eqb _ _ (named ∙ n)) (lifted_in said next _ ∙ s next))));
            reach = omega (arith, reach_most (lifted said) (at + (8 + ck_size (drop at file))), fits);
          }

          module _ (o : name ≡ FACT → ⊥) where
            unlike_fact : eqb (ck_id (drop at file)) FACT ≡ false
            unlike_fact = ne_eqb _ _ (λ x. o (i ∙ x))

            pub step_data : name ≡ DATA → Stepped file at met (Ok None)
            unfolding chunk_in
            step_data n = record {
              is = λ next. if_false _ (le-ltb _ _ long) (if_false _ (le-ltb _ _ inside) (if_false _ unlike_fmt (if_false _ unlike_fact (if_true _ (eq-eqb _ _ (named ∙ n)) refl))));
              reach = fits;
            }

            pub step_other : (name ≡ DATA → ⊥) → Stepped file at met (Ok (Some met))
            unfolding chunk_in
            step_other p = record {
              is = λ next.
                  if_false _ (le-ltb _ _ long) (if_false _ (le-ltb _ _ inside) (if_false _ unlike_fmt (if_false _ unlike_fact (if_false _ (ne_eqb _ _ (λ x. p (i ∙ x))) refl))));
              reach = fits;
            }
