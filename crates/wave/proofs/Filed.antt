-- What was read and what is written, from the contracts of the read and of the file. Assumes nothing.
use Prim.Native.Nat.{ℕ, ◌≤◌, ◌<◌}
use mathlib.Core.Path.{◌≡◌, refl, sym, ap}
use mathlib.Core.List.{List}
use native.Mathlib.Omega.{arith}
use lib.ListN.{length, take, drop, length-append}
use lib.Seq.{length-take-le, take_at}
use Rattle.text_judge.proofs.Refused.{refusal_long}
use Rattle.text_listing.specs.Lines.{printed_r}
use Rattle.wave_file.specs.Refusal.{FileResult, refused, accepted, part_of}
use Rattle.wave_write.specs.Write.{file_after}
use Rattle.text_wave.specs.TextFile.{text_file, said_in, Filed}
use Rattle.std.specs.Prelude.{Err, Ok, Result}
use Rattle.text_wave.proofs.Filing.{filed_as}
use Rattle.text_wave.proofs.Enough.{room_enough}
use Rattle.wave.specs.Input.{written, to_out, to_err, file_out, line_err, InputFiled, ReadFiled}

-- what goes out is within the file
fits : (r : FileResult (List ℕ)) (said : Result ℕ ℕ) (file₀ file : List ℕ) → said_in said ≡ part_of length r → file ≡ file_after file₀ r → written said ≤ length file
fits r (Err number) file₀ file e b = omega arith
fits (refused number) (Ok n) file₀ file e b = let z : ◌≡◌ {A = ℕ} 0 1 = cc in absurd (omega arith)
fits (accepted bytes) (Ok n) file₀ file e b =
    let s : n ≡ length bytes = cc in
    omega (arith, ap length b, length-append bytes (drop (length bytes) file₀))

-- and it is the file, or the line
out_is : (r : FileResult (List ℕ)) (said : Result ℕ ℕ) (file₀ file : List ℕ) → said_in said ≡ part_of length r → file ≡ file_after file₀ r → to_out said file ≡ file_out r
out_is (refused k) (Err number) file₀ file e b = refl
out_is (refused k) (Ok n) file₀ file e b = let z : ◌≡◌ {A = ℕ} 0 1 = cc in absurd (omega arith)
out_is (accepted bytes) (Err number) file₀ file e b = let z : ◌≡◌ {A = ℕ} 0 1 = cc in absurd (omega arith)
out_is (accepted bytes) (Ok n) file₀ file e b =
    let s : n ≡ length bytes = cc in
    rw b (take_at bytes (drop (length bytes) file₀) n (sym s))

err_is : (r : FileResult (List ℕ)) (said : Result ℕ ℕ) (file : List ℕ) → said_in said ≡ part_of length r → to_err said file ≡ line_err r
err_is (refused k) (Err number) file e = let s : number ≡ k = cc in ap printed_r s
err_is (refused k) (Ok n) file e = let z : ◌≡◌ {A = ℕ} 0 1 = cc in absurd (omega arith)
err_is (accepted bytes) (Err number) file e = let z : ◌≡◌ {A = ℕ} 0 1 = cc in absurd (omega arith)
err_is (accepted bytes) (Ok n) file e = refl

-- ---- the program
module _ (score file₀ file : List ℕ) (read : ℕ) {said : Result ℕ ℕ} (within : read ≤ length score) (h : Filed (text_file (take read score) (length file₀)) file₀ said file) where
  pub input_filed : 65536 < length score → 8250 ≤ length file₀ → InputFiled score file₀ said file
  input_filed more room =
      record {
        read = read;
        within = within;
        full = λ e. let l = length-take-le read score within in sym (refusal_long (take read score) (omega arith));
        filed = filed_as (room_enough (length file₀) room (take read score)) h;
      }

  -- of a count that was read, and what goes out for it
  pub read_filed : 65536 < length score → 8250 ≤ length file₀ → ReadFiled score read file₀ said file
  read_filed more room =
      let f = filed_as (room_enough (length file₀) room (take read score)) h in
      record {
        within = within;
        full = λ e. let l = length-take-le read score within in sym (refusal_long (take read score) (omega arith));
        filed = f;
        out = out_is (text_file (take read score) 8250) said file₀ file f.answer f.bytes;
        err = err_is (text_file (take read score) 8250) said file f.answer;
      }

  pub written_fits : written said ≤ length file
  written_fits = fits (text_file (take read score) (length file₀)) said file₀ file h.answer h.bytes
