-- What is shown of a file, by what reading it answered; and what of it goes out. Assumes nothing.
use Prim.Native.Nat.{ℕ, ◌≤◌, ◌<◌}
use mathlib.Core.Path.{◌≡◌, refl, sym, ap, ◌∙◌}
use mathlib.Core.List.{List}
use native.Mathlib.Omega.{arith}
use borrow.Author.Tests.{lt-ltb, le-ltb}
use lib.ListN.{length, take, drop}
use lib.Seq.{length-take-le, take_at}
use Rattle.laws.proofs.If.{if_true, if_false}
use Rattle.programs.specs.Counts.{IsPrefixLen}
use Rattle.text_listing.specs.Lines.{printed_r, lines_of}
use Rattle.text_listing.specs.Printed.{Printed, FramesRoom}
use Rattle.text_listing.proofs.Put.{printed_fits}
use Rattle.wave_file.specs.Refusal.{FileResult, refused, accepted, part_of, number_of}
use Rattle.wave_file.specs.declared.refusal.FileRefusal.{FileRefusal}
use Rattle.wave_read.specs.Reading.{Wave}
use Rattle.wave_read.specs.Read.{read_result, Extent, extent_of, read_in, samples_after, Reads}
use Rattle.std.specs.Prelude.{Result, Ok, Err}
use Rattle.wave_read.specs.declared.read.Samples.{Samples}
use Rattle.wave_frames.specs.Input.{shown_read, file_lines, InputShown, ReadShown}

pub shown_long : (file : List ℕ) → 65536 < length file → printed_r 23 ≡ file_lines file
unfolding file_lines
shown_long file h = if_true _ (lt-ltb _ _ h) refl

shown_read_lem : (file : List ℕ) → length file ≤ 65536 → shown_read (read_result file 2048) ≡ file_lines file
unfolding file_lines
shown_read_lem file h = if_false _ (le-ltb _ _ h) refl

-- what an answer says of the result
taken_from : (r : FileResult Wave) (e : Extent) (samples₀ samples : List ℕ) → accepted e ≡ part_of extent_of r → samples ≡ samples_after samples₀ r → lines_of (take e.count samples) ≡ shown_read r
taken_from (refused number) e samples₀ samples q b = let z : ◌≡◌ {A = ℕ} 0 1 = cc in absurd (omega arith)
taken_from (accepted w) e samples₀ samples q b =
    let s : e ≡ extent_of w = cc in
    let n : e.count ≡ length w.samples = ap (λ (x : Extent). x.count) s in
    let is : take e.count samples ≡ w.samples = rw (b, n) (take_at w.samples (drop (length w.samples) samples₀) (length w.samples) refl) in
    ap lines_of is

refused_from : (r : FileResult Wave) (number : ℕ) → refused number ≡ part_of extent_of r → printed_r number ≡ shown_read r
refused_from (refused k) number q = let s : number ≡ k = cc in ap printed_r s
refused_from (accepted w) number q = let z : ◌≡◌ {A = ℕ} 0 1 = cc in absurd (omega arith)

module _ {file samples₀ samples : List ℕ} {said : Result Samples FileRefusal} (h : Reads file samples₀ said samples) (room : 2048 ≡ length samples₀) (few : length file ≤ 65536) where
  answered : read_in said ≡ part_of extent_of (read_result file 2048)
  answered = h.answer ∙ ap (λ (n : ℕ). part_of extent_of (read_result file n)) (sym room)

  pub shown_samples : (s : Samples) → said ≡ Ok s → lines_of (take s.count samples) ≡ file_lines file
  shown_samples s e =
      taken_from (read_result file 2048) (record { rate = s.rate; count = s.count }) samples₀ samples (ap read_in (sym e) ∙ answered)
      (h.bits ∙ ap (λ (n : ℕ). samples_after samples₀ (read_result file n)) (sym room))
      ∙ shown_read_lem file few

  pub shown_refusal : (r : FileRefusal) → said ≡ Err r → {k : ℕ} → k ≡ number_of r → printed_r k ≡ file_lines file
  shown_refusal r e i = ap printed_r i ∙ refused_from (read_result file 2048) (number_of r) (ap read_in (sym e) ∙ answered) ∙ shown_read_lem file few

pub lines_room : {count n size : ℕ} → count ≤ 2048 → count ≡ n → 32768 ≤ size → FramesRoom n 0 size
lines_room a b c = record { frames = omega arith; bytes = omega arith }

-- ---- the program
module _ (file page₀ page : List ℕ) (read : ℕ) {written : ℕ} (within : read ≤ length file) (p : Printed (file_lines (take read file)) 0 page₀ written page) where
  pub input_shown : 65536 < length file → InputShown file page₀ written page
  input_shown more =
      record {
        read = read;
        within = within;
        full = λ e. let l = length-take-le read file within in sym (shown_long (take read file) (omega arith));
        lines = p;
      }

  -- of a count that was read
  pub read_shown : 65536 < length file → ReadShown file read page₀ written page
  read_shown more =
      record {
        within = within;
        full = λ e. let l = length-take-le read file within in sym (shown_long (take read file) (omega arith));
        lines = p;
      }

  pub written_counts : IsPrefixLen written page
  written_counts = let fits = printed_fits p in (fits, sym (length-take-le written page fits))
