-- The sentences of the card about writes: taken whole or not at all, and which is refused with what number. Assumes nothing.
use Prim.Native.Nat.{ℕ, zero, suc, ◌+◌, ◌*◌, ◌-◌, ◌≤◌, ◌<◌}
use mathlib.Core.Path.{◌≡◌, refl}
use mathlib.Core.List.{List}
use mathlib.Core.Bool.{Bool, true, false, cond, ◌&&◌, ◌||◌, false≢true}
use native.Mathlib.Omega.{arith}
use borrow.Author.Tests.{ltb-true, leb-true, eqb-true, ne_eqb}
use lib.ListN.{length, get_or}
use lib.Dec.{ltb, leb, eqb}
use Rattle.board.specs.Registers.{Registers, digit, fill, full, control_of, byte_at}
use Rattle.board.specs.Shape.{byte_for, is_sample, sample_of, inside, valid, permitted}
use Rattle.board.specs.Write.{Written, bit0, bit1, stored, queued, taken, refused, sampled, other, write_of}
use Rattle.board.specs.Whole.{Whole}
use Rattle.std.specs.Prelude.{Ok, Err}
use Rattle.board.specs.declared.answer.WriteRefusal.TheVariants.{QueueFull, Invalid}
use Rattle.board.proofs.Shapes.{and_both}

-- What a write comes to, by its tests.
module _ (m : Registers) (place : ℕ) (bytes : List ℕ) where
  pub a_sample : is_sample place bytes ≡ true → write_of m place bytes ≡ sampled m (sample_of bytes)
  unfolding write_of
  a_sample e = rw e

  pub a_register : is_sample place bytes ≡ false → permitted place bytes ≡ true → write_of m place bytes ≡ taken (stored m place bytes)
  unfolding write_of
  a_register e p = rw (e, p)

  pub neither : is_sample place bytes ≡ false → permitted place bytes ≡ false → write_of m place bytes ≡ refused m Invalid
  unfolding write_of
  neither e p = rw (e, p)

  -- "taken whole or not at all": what is not accepted changes nothing
  abbrev Kept : Written → Type 0
  Kept w = (w.outcome ≡ Ok tt → ⊥) → w.after ≡ m

  sample_kept : (f : Bool) → Kept (cond f (refused m QueueFull) (taken (queued m (sample_of bytes))))
  sample_kept true h = refl
  sample_kept false h = absurd (h refl)

  other_kept : (p : Bool) → Kept (cond p (taken (stored m place bytes)) (refused m Invalid))
  other_kept true h = absurd (h refl)
  other_kept false h = refl

  kept_by : (s : Bool) → Kept (cond s (sampled m (sample_of bytes)) (other m place bytes))
  unfolding sampled
  kept_by true = sample_kept (full m)
  kept_by false = other_kept (permitted place bytes)

  pub refused_keeps : Kept (write_of m place bytes)
  unfolding write_of
  refused_keeps = kept_by (is_sample place bytes)

-- Which values an accepted write of registers has.
module _ (place : ℕ) (bytes : List ℕ) (p : permitted place bytes ≡ true) where
  permitted_valid : valid (byte_for place bytes 0) (byte_for place bytes 1) (byte_for place bytes 2) ≡ true
  unfolding permitted
  permitted_valid = (and_both (inside place (length bytes)) (valid (byte_for place bytes 0) (byte_for place bytes 1) (byte_for place bytes 2)) p).1

  permitted_inside : inside place (length bytes) ≡ true
  unfolding permitted
  permitted_inside = (and_both (inside place (length bytes)) (valid (byte_for place bytes 0) (byte_for place bytes 1) (byte_for place bytes 2)) p).0

  pub permitted_some : 0 < length bytes
  permitted_some = ltb-true 0 (length bytes) (and_both (ltb 0 (length bytes)) (leb (place + length bytes) 3) permitted_inside).0

  pub permitted_end : place + length bytes ≤ 3
  permitted_end = leb-true (place + length bytes) 3 (and_both (ltb 0 (length bytes)) (leb (place + length bytes) 3) permitted_inside).1

  pub permitted_status : (byte_for place bytes 1 ≡ 0 → ⊥) → (byte_for place bytes 1 ≡ 2 → ⊥) → ⊥
  permitted_status z t =
      let status = eqb (byte_for place bytes 1) 0 || eqb (byte_for place bytes 1) 2 in
      let rest = (and_both (leb (byte_for place bytes 0) 3) (status && leb (byte_for place bytes 2) 63) permitted_valid).1 in
      let holds : status ≡ true = (and_both status (leb (byte_for place bytes 2) 63) rest).0 in
      false≢true (rw (ne_eqb (byte_for place bytes 1) 0 z, ne_eqb (byte_for place bytes 1) 2 t) at holds)

  pub permitted_control : byte_for place bytes 0 ≤ 3
  permitted_control =
      let status = byte_for place bytes 1 in
      leb-true (byte_for place bytes 0) 3 (and_both (leb (byte_for place bytes 0) 3) ((eqb status 0 || eqb status 2) && leb (byte_for place bytes 2) 63) permitted_valid).0

  pub permitted_mark : byte_for place bytes 2 ≤ 63
  permitted_mark =
      let status = eqb (byte_for place bytes 1) 0 || eqb (byte_for place bytes 1) 2 in
      let rest = (and_both (leb (byte_for place bytes 0) 3) (status && leb (byte_for place bytes 2) 63) permitted_valid).1 in
      leb-true (byte_for place bytes 2) 63 (and_both status (leb (byte_for place bytes 2) 63) rest).1

not_true : (b : Bool) → (b ≡ true → ⊥) → b ≡ false
not_true true h = absurd (h refl)
not_true false h = refl

long_other : (place : ℕ) (bytes : List ℕ) → 8 < length bytes → is_sample place bytes ≡ false
unfolding is_sample
long_other place bytes h = not_true (eqb place 4 && eqb (length bytes) 4) (λ e. omega (arith, eqb-true (length bytes) 4 (and_both (eqb place 4) (eqb (length bytes) 4) e).1))

-- a control's byte is its two bits
two_bits : (v : ℕ) → v ≤ 3 → digit (bit0 v) + 2 * digit (bit1 v) ≡ v
two_bits zero h = refl
two_bits (suc zero) h = refl
two_bits (suc (suc zero)) h = refl
two_bits (suc (suc (suc zero))) h = refl
two_bits (suc (suc (suc (suc v)))) h = absurd (omega arith)

module _ (m : Registers) (place : ℕ) (bytes : List ℕ) where
  -- "A write is a place and its bytes, taken whole"
  pub taken_whole : is_sample place bytes ≡ false → permitted place bytes ≡ true → Whole m (write_of m place bytes).after place bytes
  unfolding byte_at control_of stored byte_for
  taken_whole e p = rw (a_register m place bytes e p) (record {
    control = λ h. rw h (two_bits (get_or bytes (0 - place) 0) (rw h at (permitted_control place bytes p)));
    control_kept = λ h. rw h;
    mark = λ h. rw h;
    mark_kept = λ h. rw h;
    underrun = refl;
    samples = refl;
  })

  -- no sample's write is one of registers
  pub sample_alone : is_sample place bytes ≡ true → permitted place bytes ≡ false
  unfolding is_sample
  sample_alone e =
      let at : place ≡ 4 = eqb-true place 4 (and_both (eqb place 4) (eqb (length bytes) 4) e).0 in
      not_true (permitted place bytes) (λ p. omega (arith, permitted_end place bytes p))

  -- "Writing 1 to underrun clears it": exactly an accepted write of status whose bit 1 stands
  abbrev Clears : Bool → Written → Type 0
  Clears p w = w.after.underrun ≡ cond p (cond (bit1 (byte_for place bytes 1)) false m.underrun) m.underrun

  sample_clears : (f : Bool) → Clears false (cond f (refused m QueueFull) (taken (queued m (sample_of bytes))))
  sample_clears true = refl
  sample_clears false = refl

  other_clears : (p : Bool) → Clears p (cond p (taken (stored m place bytes)) (refused m Invalid))
  unfolding stored
  other_clears true = refl
  other_clears false = refl

  clears_by : (s : Bool) → is_sample place bytes ≡ s → Clears (permitted place bytes) (cond s (sampled m (sample_of bytes)) (other m place bytes))
  unfolding sampled
  clears_by true e = rw (sample_alone e) (sample_clears (full m))
  clears_by false e = other_clears (permitted place bytes)

  pub write_underrun : Clears (permitted place bytes) (write_of m place bytes)
  unfolding write_of
  write_underrun = clears_by (is_sample place bytes) refl

  -- "It refuses a sample written to a full queue with 38"
  pub full_refused : is_sample place bytes ≡ true → fill m ≡ 64 → write_of m place bytes ≡ refused m QueueFull
  unfolding sampled
  full_refused e f = rw (a_sample m place bytes e, f)

  -- and no other write
  abbrev Full : Written → Type 0
  Full w = w.outcome ≡ Err QueueFull → (is_sample place bytes ≡ true) × (fill m ≡ 64)

  sample_full : (f : Bool) → full m ≡ f → is_sample place bytes ≡ true → Full (cond f (refused m QueueFull) (taken (queued m (sample_of bytes))))
  sample_full true f e h = (e, eqb-true (fill m) 64 f)
  sample_full false f e h = absurd (let z : ◌≡◌ {A = ℕ} 0 1 = cc in omega arith)

  other_full : (p : Bool) → Full (cond p (taken (stored m place bytes)) (refused m Invalid))
  other_full true h = absurd (let z : ◌≡◌ {A = ℕ} 0 1 = cc in omega arith)
  other_full false h = absurd (let z : ◌≡◌ {A = ℕ} 0 1 = cc in omega arith)

  full_by : (s : Bool) → is_sample place bytes ≡ s → Full (cond s (sampled m (sample_of bytes)) (other m place bytes))
  unfolding sampled
  full_by true e = sample_full (full m) refl e
  full_by false e = other_full (permitted place bytes)

  pub full_only : Full (write_of m place bytes)
  unfolding write_of
  full_only = full_by (is_sample place bytes) refl

  -- "Bytes 4 to 7 the sample .. queued when a write is just these four"
  pub sample_queued : is_sample place bytes ≡ true → (fill m ≡ 64 → ⊥) → write_of m place bytes ≡ taken (queued m (sample_of bytes))
  unfolding sampled
  sample_queued e f = rw (a_sample m place bytes e, ne_eqb (fill m) 64 f)

  -- any other write with one of these faults is refused with 39
  module _ (no-sample : is_sample place bytes ≡ false) where
    faulty : (permitted place bytes ≡ true → ⊥) → write_of m place bytes ≡ refused m Invalid
    faulty h = neither m place bytes no-sample (not_true (permitted place bytes) h)

    -- "an empty write"
    pub empty_refused : length bytes ≡ 0 → write_of m place bytes ≡ refused m Invalid
    empty_refused e = faulty (λ p. omega (arith, permitted_some place bytes p))

    -- "to bytes 3 to 7, past the block"
    pub past_refused : 3 < place + length bytes → write_of m place bytes ≡ refused m Invalid
    past_refused h = faulty (λ p. omega (arith, permitted_end place bytes p))

    -- "of a status byte with any bit but 1 set"
    pub status_refused : (byte_for place bytes 1 ≡ 0 → ⊥) → (byte_for place bytes 1 ≡ 2 → ⊥) → write_of m place bytes ≡ refused m Invalid
    status_refused z t = faulty (λ p. permitted_status place bytes p z t)

    -- "of a mark above 63"
    pub mark_refused : 63 < byte_for place bytes 2 → write_of m place bytes ≡ refused m Invalid
    mark_refused h = faulty (λ p. omega (arith, permitted_mark place bytes p))

    -- "or of a control above 3"
    pub control_refused : 3 < byte_for place bytes 0 → write_of m place bytes ≡ refused m Invalid
    control_refused h = faulty (λ p. omega (arith, permitted_control place bytes p))

-- "past the block", wherever it starts
pub long_refused : (m : Registers) (place : ℕ) (bytes : List ℕ) → 8 < length bytes → write_of m place bytes ≡ refused m Invalid
long_refused m place bytes h =
    let n : 3 < place + length bytes = omega arith in
    past_refused m place bytes (long_other place bytes h) n
