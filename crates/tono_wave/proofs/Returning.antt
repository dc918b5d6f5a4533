-- The numbers that C gets. Assumes nothing.
use Prim.Native.Nat.{ℕ, ◌≤◌}
use mathlib.Core.Path.{◌≡◌, refl, sym, ap, ◌∙◌}
use mathlib.Core.List.{List}
use lib.ListN.{length}
use lib.IntN.{ℤ, pos, neg_ℤ}
use Rattle.wave_file.specs.Refusal.{FileResult, refused, accepted, part_of, number_of}
use Rattle.wave_file.specs.declared.refusal.FileRefusal.{FileRefusal}
use Rattle.wave_write.specs.Write.{write_result, written_in, Wrote}
use Rattle.std.specs.Prelude.{Result, Ok, Err}
use Rattle.wave_write.proofs.Writing.{wrote_passed}
use Rattle.wave_read.specs.Reading.{Wave}
use Rattle.wave_read.specs.Read.{read_result, Extent, extent_of, read_in, Reads}
use Rattle.wave_read.specs.declared.read.Samples.{Samples}
use Rattle.tono_wave.specs.Wave.{file_return, rate_after, WriteReturned, ReadReturned}

-- what an answer says of a part of the result, the number says of the result
module _ {A B : Type 0} (part : A → B) (size : B → ℕ) where
  pub accepted_returned : (r : FileResult A) (b : B) → accepted b ≡ part_of part r → pos (size b) ≡ file_return (λ a. size (part a)) r
  accepted_returned (refused number) b e = cc
  accepted_returned (accepted a) b e = let s : b ≡ part a = cc in ap (λ (x : B). pos (size x)) s

  pub refused_returned : (r : FileResult A) (number : ℕ) → refused number ≡ part_of part r → neg_ℤ (pos number) ≡ file_return (λ a. size (part a)) r
  refused_returned (refused k) number e = let s : number ≡ k = cc in ap (λ (x : ℕ). neg_ℤ (pos x)) s
  refused_returned (accepted a) number e = cc

-- ---- writing
module _ {rate : ℕ} {samples file₀ file : List ℕ} {said : Result ℕ FileRefusal} (w : Wrote rate samples file₀ said file) where
  abbrev written : FileResult (List ℕ)
  written = write_result rate samples (length file₀)

  pub bytes_fit : (n : ℕ) → said ≡ Ok n → n ≤ length file₀
  bytes_fit n e = (wrote_passed rate samples (length file₀) n (ap written_in (sym e) ∙ w.answer)).fits

  pub write_length : (n : ℕ) → said ≡ Ok n → {z : ℤ} → z ≡ pos n → WriteReturned rate samples file₀ z file
  write_length n e i = record { answer = i ∙ accepted_returned length (λ n. n) written n (ap written_in (sym e) ∙ w.answer); bytes = w.bytes }

  pub write_refused : (r : FileRefusal) → said ≡ Err r → {n : ℕ} → n ≡ number_of r → {z : ℤ} → z ≡ neg_ℤ (pos n) → WriteReturned rate samples file₀ z file
  write_refused r e is i = record { answer = (rw is at i) ∙ refused_returned length (λ n. n) written (number_of r) (ap written_in (sym e) ∙ w.answer); bytes = w.bytes }

-- ---- reading
rate_read : (rate₀ : ℕ) (r : FileResult Wave) (e : Extent) → accepted e ≡ part_of extent_of r → e.rate ≡ rate_after rate₀ r
rate_read rate₀ (refused number) e q = cc
rate_read rate₀ (accepted w) e q = let s : e ≡ extent_of w = cc in ap (λ (x : Extent). x.rate) s

rate_kept : (rate₀ : ℕ) (r : FileResult Wave) (number : ℕ) → refused number ≡ part_of extent_of r → rate₀ ≡ rate_after rate₀ r
rate_kept rate₀ (refused k) number q = refl
rate_kept rate₀ (accepted w) number q = cc

module _ {file samples₀ samples : List ℕ} {said : Result Samples FileRefusal} (h : Reads file samples₀ said samples) (rate₀ : ℕ) where
  abbrev result : FileResult Wave
  result = read_result file (length samples₀)

  pub read_count : (s : Samples) → said ≡ Ok s → {z : ℤ} → z ≡ pos s.count → ReadReturned file rate₀ samples₀ z s.rate samples
  read_count s e i =
      let x : Extent = record { rate = s.rate; count = s.count } in
      let q : accepted x ≡ part_of extent_of result = ap read_in (sym e) ∙ h.answer in
      record { answer = i ∙ accepted_returned extent_of (λ x. x.count) result x q; place = rate_read rate₀ result x q; bits = h.bits }

  pub read_refused : (r : FileRefusal) → said ≡ Err r → {n : ℕ} → n ≡ number_of r → {z : ℤ} → z ≡ neg_ℤ (pos n) → ReadReturned file rate₀ samples₀ z rate₀ samples
  read_refused r e is i =
      let q : refused (number_of r) ≡ part_of extent_of result = ap read_in (sym e) ∙ h.answer in
      record { answer = (rw is at i) ∙ refused_returned extent_of (λ x. x.count) result (number_of r) q; place = rate_kept rate₀ result (number_of r) q; bits = h.bits }
