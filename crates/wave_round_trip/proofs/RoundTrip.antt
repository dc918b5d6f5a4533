-- "Reading a written file gives the rate and each sample's bits, NaN included." `read_written` says it of the definitions, `round_trip` of the calls: a file that writing
-- wrote, read into a buffer with room for its samples, gives the same rate, as many samples and each one's bits. Assumes nothing.
use Prim.Native.Nat.{ℕ, suc, ◌+◌, ◌*◌, ◌^◌, ◌≤◌, ◌<◌}
use mathlib.Core.Path.{◌≡◌, refl, sym, ap, ◌∙◌}
use mathlib.Core.List.{List, [], ◌∷◌, ◌++◌, append-nil}
use native.Mathlib.Omega.{arith}
use borrow.Author.Tests.{le-ltb}
use lib.ListN.{length, take, drop}
use lib.Seq.{take_at, drop_at, take-append_seam}
use Rattle.laws.proofs.If.{if_false}
use Rattle.wave_file.specs.Bytes.{little_endian, number_in, field_at}
use Rattle.wave_file.specs.Chunk.{WAVE, FMT, FACT, DATA, chunk}
use Rattle.wave_file.specs.Refusal.{FileResult, accepted, part_of}
use Rattle.wave_file.specs.declared.refusal.FileRefusal.{FileRefusal}
use Rattle.wave_file.proofs.Fields.{length_little, number_little}
use Rattle.wave_write.specs.Header.{fmt_body, sample_bytes, wave_file}
use Rattle.wave_write.specs.Write.{file_after, Wrote}
use Rattle.std.specs.Prelude.{Some, None, Result, Ok, Err}
use Rattle.wave_write.proofs.Files.{samples_length}
use Rattle.wave_write.proofs.Writing.{wrote_passed}
use Rattle.wave_read.specs.Reading.{Wave, samples_in, walk, reading}
use Rattle.wave_read.specs.Read.{within, read_result, Extent, extent_of, read_in, samples_after, Reads}
use Rattle.wave_read.specs.declared.read.Samples.{Samples}
use Rattle.wave_round_trip.specs.Patterns.{Patterns}
use Rattle.wave_round_trip.proofs.Rows.{walk_fmt, walk_fact, walk_data, form_read}

-- each sample's bits
samples_again : (samples : List ℕ) → Patterns samples → samples_in (length samples) (sample_bytes samples) ≡ samples
unfolding samples_in sample_bytes
samples_again [] p = refl
samples_again (s ∷ ss) p =
    let here : field_at 4 0 (little_endian 4 s ++ sample_bytes ss) ≡ s =
    ap number_in (take_at (little_endian 4 s) (sample_bytes ss) 4 (length_little 4 s)) ∙ number_little 4 s (p 0 (omega arith)) in
    let there = drop_at (little_endian 4 s) (sample_bytes ss) 4 (length_little 4 s) in
    rw (here, there) (ap (λ (l : List ℕ). s ∷ l) (samples_again ss (λ i h. p (suc i) (omega arith))))

module _ (rate : ℕ) (samples : List ℕ) (r : rate ≤ 192000) (n : length samples ≤ 16777216) where
  abbrev chunks : List ℕ
  chunks = chunk FMT (fmt_body rate) ++ (chunk FACT (little_endian 4 (length samples)) ++ chunk DATA (sample_bytes samples))

  abbrev data_chunk_value : List ℕ
  data_chunk_value = chunk DATA (sample_bytes samples)

  abbrev fact_on : List ℕ
  fact_on = chunk FACT (little_endian 4 (length samples)) ++ data_chunk_value

  at_data : accepted (record { rate = rate; samples = samples_in (length samples) (sample_bytes samples) }) ≡ walk 0 (record { rate = Some rate; count = Some (length samples) }) data_chunk_value
  at_data =
      let l : length (sample_bytes samples) < 256 ^ 4 = omega (arith, samples_length samples) in
      rw append-nil at (walk_data [] (sample_bytes samples) rate (length samples) (samples_length samples) l)

  at_fact : walk 0 (record { rate = Some rate; count = Some (length samples) }) data_chunk_value ≡ walk 0 (record { rate = Some rate; count = None }) fact_on
  at_fact =
      let b = little_endian 4 (length samples) in
      let l = length_little 4 (length samples) in
      let e : field_at 4 0 (b ++ data_chunk_value) ≡ length samples = ap number_in (take_at b data_chunk_value 4 l) ∙ number_little 4 (length samples) (omega arith) in
      walk_fact data_chunk_value b l e (Some rate)

  at_fmt : walk 0 (record { rate = Some rate; count = None }) fact_on ≡ walk 0 (record { rate = None; count = None }) chunks
  unfolding little_endian number_in
  at_fmt = walk_fmt fact_on (fmt_body rate) refl refl refl refl (number_little 4 rate (omega arith)) None

  body_length : length (little_endian 4 WAVE ++ chunks) ≡ 50 + 4 * length samples
  unfolding little_endian
  body_length = omega (arith, samples_length samples)

  -- what the definition of reading gives of the definition of a written file
  pub read_written : Patterns samples → accepted (record { rate = rate; samples = samples }) ≡ reading (wave_file rate samples)
  unfolding wave_file
  read_written p =
      let l : length (little_endian 4 WAVE ++ chunks) < 256 ^ 4 = omega (arith, body_length) in
      let wave : List ℕ → FileResult Wave = λ k. accepted (record { rate = rate; samples = k }) in
      let bits : wave samples ≡ wave (samples_in (length samples) (sample_bytes samples)) = ap wave (sym (samples_again samples p)) in
      bits ∙ at_data ∙ at_fact ∙ at_fmt ∙ form_read chunks l

-- ---- the calls
-- an answer that is accepted names its rate and count
said_samples : (said : Result Samples FileRefusal) (rate count : ℕ) → read_in said ≡ accepted (record { rate = rate; count = count }) → said ≡ Ok (record { rate = rate; count = count })
said_samples (Ok s) rate count e =
    let q : ◌≡◌ {A = Extent} (record { rate = s.rate; count = s.count }) (record { rate = rate; count = count }) = cc in
    λ j. Ok (record { rate = (q j).rate; count = (q j).count })
said_samples (Err x) rate count e = cc

-- "Reading a written file gives the rate and each sample's bits": a file was written as the first n bytes of `file`, and these are read into a buffer with room for the samples
pub round_trip : {rate n : ℕ} {samples file₀ file : List ℕ} → Wrote rate samples file₀ (Ok n) file → Patterns samples
    → {samples₀ again : List ℕ} {said : Result Samples FileRefusal} → Reads (take n file) samples₀ said again → length samples ≤ length samples₀
    → (said ≡ Ok (record { rate = rate; count = length samples })) × (again ≡ samples ++ drop (length samples) samples₀)
unfolding within
round_trip {rate} {n} {samples} {file₀} {file} w p {samples₀} {again} {said} r room =
    let q = wrote_passed rate samples (length file₀) n w.answer in
    let bytes : file ≡ wave_file rate samples ++ drop (length (wave_file rate samples)) file₀ = w.bytes ∙ ap (file_after file₀) q.is in
    let taken : take n file ≡ wave_file rate samples = rw (bytes, q.long) (take-append_seam (wave_file rate samples) (drop (length (wave_file rate samples)) file₀)) in
    let wave : Wave = record { rate = rate; samples = samples } in
    let read : accepted wave ≡ reading (take n file) = rw taken (read_written rate samples q.rate_most q.count_most p) in
    let result : accepted wave ≡ read_result (take n file) (length samples₀) = if_false _ (le-ltb _ _ room) refl ∙ ap (within (length samples₀)) read in
    (said_samples said rate (length samples) (r.answer ∙ ap (part_of extent_of) (sym result)), r.bits ∙ ap (samples_after samples₀) (sym result))
