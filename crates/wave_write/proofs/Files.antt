-- The bytes of a file: its samples, its length, its parts. Assumes nothing.
use Prim.Native.Nat.{ℕ, ◌+◌, ◌*◌, ◌<◌, ◌≤◌}
use mathlib.Core.Path.{◌≡◌, refl, sym, ap, ◌∙◌}
use mathlib.Core.List.{List, [], ◌∷◌, ◌++◌, append_assoc, append-nil}
use native.Mathlib.Omega.{arith}
use native.Mathlib.Numerals.{add-one}
use lib.ListN.{length, take, get_or, length-append}
use lib.Seq.{take-suc, take_all, length-take-le}
use Rattle.wave_file.specs.Bytes.{little_endian, Placed}
use Rattle.wave_file.specs.Chunk.{RIFF, WAVE, FMT, FACT, DATA, chunk}
use Rattle.wave_file.proofs.Fields.{length_little, placed_none, placed_length, placed_both}
use Rattle.wave_write.specs.Header.{fmt_body, sample_bytes, wave_file}

-- ---- the samples
pub samples_length : (l : List ℕ) → length (sample_bytes l) ≡ 4 * length l
unfolding sample_bytes
samples_length [] = refl
samples_length (s ∷ ss) = omega (arith, length-append (little_endian 4 s) (sample_bytes ss), length_little 4 s, samples_length ss)

samples_append : (l m : List ℕ) → sample_bytes (l ++ m) ≡ sample_bytes l ++ sample_bytes m
unfolding sample_bytes
samples_append [] m = refl
samples_append (s ∷ ss) m = ap (λ (l : List ℕ). little_endian 4 s ++ l) (samples_append ss m) ∙ sym (append_assoc (little_endian 4 s) (sample_bytes ss) (sample_bytes m))

samples_one : (s : ℕ) → sample_bytes (s ∷ []) ≡ little_endian 4 s
unfolding sample_bytes
samples_one s = append-nil (little_endian 4 s)

samples_more : (l : List ℕ) (i : ℕ) → i < length l → sample_bytes (take i l) ++ little_endian 4 (get_or l i 0) ≡ sample_bytes (take (i + 1) l)
samples_more l i h = rw (add-one, take-suc l i 0, samples_append, samples_one)

-- What holds after i samples.
pub record Sampled (samples : List ℕ) (i : ℕ) (file₀ file : List ℕ) : Type 0 where
  pub within : i ≤ length samples
  pub bytes : Placed (sample_bytes (take i samples)) 58 file₀ file

module _ {samples f₀ : List ℕ} (room : 58 + 4 * length samples ≤ length f₀) where
  pub sampled_none : Sampled samples 0 f₀ f₀
  unfolding sample_bytes
  sampled_none = record { within = omega arith; bytes = placed_none f₀ 58 }

  module _ {i : ℕ} {f : List ℕ} (h : Sampled samples i f₀ f) where
    taken : length (sample_bytes (take i samples)) ≡ 4 * i
    taken = samples_length (take i samples) ∙ ap (λ (k : ℕ). 4 * k) (length-take-le i samples h.within)

    pub sampled_length : length f ≡ length f₀
    sampled_length = placed_length (omega (arith, taken, h.within)) h.bytes

    pub sampled_more : {g : List ℕ} → i < length samples → Placed (little_endian 4 (get_or samples i 0)) (58 + 4 * i) f g → Sampled samples (i + 1) f₀ g
    sampled_more lt p = record {
      within = omega arith;
      bytes = rw samples_more at (placed_both (omega arith) (omega (arith, taken)) h.bytes p);
    }

    pub sampled_all : length samples ≤ i → Placed (sample_bytes samples) 58 f₀ f
    sampled_all l = rw (take_all i samples l) at h.bytes

-- ---- the whole file
module _ (rate : ℕ) (samples : List ℕ) where
  -- "its length less 8"
  body_length : length (little_endian 4 WAVE ++ (chunk FMT (fmt_body rate) ++ (chunk FACT (little_endian 4 (length samples)) ++ chunk DATA (sample_bytes samples)))) ≡ 50 + 4 * length samples
  unfolding little_endian
  body_length = omega (arith, samples_length samples)

  pub file_length : length (wave_file rate samples) ≡ 58 + 4 * length samples
  unfolding wave_file little_endian
  file_length = omega (arith, samples_length samples)

  -- "58 header bytes"
  abbrev pub header : List ℕ
  header =
      little_endian 4 RIFF ++ (little_endian 4 (50 + 4 * length samples) ++ little_endian 4 WAVE)
      ++ chunk FMT (fmt_body rate)
      ++ chunk FACT (little_endian 4 (length samples))
      ++ (little_endian 4 DATA ++ little_endian 4 (4 * length samples))

  header_is : header ++ sample_bytes samples ≡ wave_file rate samples
  unfolding wave_file
  header_is = rw (body_length, samples_length samples) (simp append_assoc)

  pub file_placed : {f₀ f₁ f₂ f₃ f₄ f₅ : List ℕ}
      → Placed (little_endian 4 RIFF ++ (little_endian 4 (50 + 4 * length samples) ++ little_endian 4 WAVE)) 0 f₀ f₁
      → Placed (chunk FMT (fmt_body rate)) 12 f₁ f₂
      → Placed (chunk FACT (little_endian 4 (length samples))) 38 f₂ f₃
      → Placed (little_endian 4 DATA ++ little_endian 4 (4 * length samples)) 50 f₃ f₄
      → Placed (sample_bytes samples) 58 f₄ f₅
      → Placed (wave_file rate samples) 0 f₀ f₅
  unfolding little_endian
  file_placed p q r s t =
      rw header_is at (placed_both (omega arith) refl (placed_both (omega arith) refl (placed_both (omega arith) refl (placed_both (omega arith) refl p q) r) s) t)
