-- What a file's bytes say, or the number of its first fault in file order. In quotation marks: 02.
use Rattle.std.specs.Prelude.{ℕ, Option, Some, None, zero, suc, ◌+◌, ◌*◌, ◌-◌, ◌%◌, List, [], ◌∷◌, cond, not, length, drop, ltb, eqb}
use Rattle.wave_file.specs.Bytes.{field_at}
use Rattle.wave_file.specs.Chunk.{RIFF, WAVE, FMT, FACT, DATA, ck_id, ck_size, ck_data}
use Rattle.wave_file.specs.Refusal.{FileResult, refused, accepted}
use Rattle.wave_read.specs.declared.chunks.Met.{Met}

-- "the rate and each sample's bits"
pub record Wave : Type 0 where
  pub rate : ℕ
  pub samples : List ℕ

-- n samples of four bytes each
unfoldable pub samples_in : ℕ → List ℕ → List ℕ
samples_in zero bs = []
samples_in (suc n) bs = field_at 4 0 bs ∷ samples_in n (drop 4 bs)

-- A chunk c is judged with what was met before it, fmt's rate and fact's count; `next` goes on behind it. The bytes of c are those from its name on.

-- "a second fmt", "fmt not 18" and then "a tag, channel count or sample width other than 3, 1 and 32 with 36"; "Other fmt fields .. are ignored". Of WAVEFORMATEX in the chunk's
-- body: wFormatTag at 0, nChannels at 2, nSamplesPerSec at 4, wBitsPerSample at 14.
unfoldable pub fmt_chunk : Option ℕ → Option ℕ → List ℕ → (Met → FileResult Wave) → FileResult Wave
fmt_chunk (Some rate) count c next = refused 37
fmt_chunk None count c next =
    cond (not (eqb (ck_size c) 18)) (refused 37)
    (cond (not (eqb (field_at 2 8 c) 3)) (refused 36)
    (cond (not (eqb (field_at 2 10 c) 1)) (refused 36)
    (cond (not (eqb (field_at 2 22 c) 32)) (refused 36)
    (next (record { rate = Some (field_at 4 12 c); count = count })))))

-- "a second .. fact", "fact not 4"
unfoldable pub fact_chunk : Option ℕ → Option ℕ → List ℕ → (Met → FileResult Wave) → FileResult Wave
fact_chunk rate (Some count) c next = refused 37
fact_chunk rate None c next =
    cond (not (eqb (ck_size c) 4)) (refused 37)
    (next (record { rate = rate; count = Some (field_at 4 8 c) }))

-- "data against fact and missing chunks come last": "data not 4 times fact's count"
unfoldable pub data_chunk : Option ℕ → Option ℕ → List ℕ → FileResult Wave
data_chunk None count c = refused 37
data_chunk (Some rate) None c = refused 37
data_chunk (Some rate) (Some count) c =
    cond (not (eqb (ck_size c) (4 * count))) (refused 37)
    (accepted (record { rate = rate; samples = samples_in count (ck_data c) }))

-- "a chunk past the file's end", its header or its body; then by its name. "Chunks of other names before data are skipped".
unfoldable pub chunk_in : Met → List ℕ → (Met → FileResult Wave) → FileResult Wave
chunk_in met c next =
    cond (ltb (length c) 8) (refused 37)
    (cond (ltb (length c) (8 + ck_size c)) (refused 37)
    (cond (eqb (ck_id c) FMT) (fmt_chunk met.rate met.count c next)
    (cond (eqb (ck_id c) FACT) (fact_chunk met.rate met.count c next)
    (cond (eqb (ck_id c) DATA) (data_chunk met.rate met.count c)
    (next met)))))

-- Along the bytes of a file, the next chunk being so many bytes ahead: "with their padding byte when odd". At the file's end data is missing. Bytes after data are not come to.
unfoldable pub walk : ℕ → Met → List ℕ → FileResult Wave
walk ahead met [] = refused 37
walk (suc ahead) met (b ∷ bs) = walk ahead met bs
walk zero met (b ∷ bs) =
    let size = ck_size (b ∷ bs) in
    chunk_in met (b ∷ bs) (λ (after : Met). walk (7 + size + size % 2) after bs)

-- "a file not begun by RIFF, its length less 8 and WAVE"
unfoldable pub reading : List ℕ → FileResult Wave
reading file =
    cond (ltb (length file) 12) (refused 37)
    (cond (not (eqb (ck_id file) RIFF)) (refused 37)
    (cond (not (eqb (ck_size file) (length file - 8))) (refused 37)
    (cond (not (eqb (field_at 4 8 file) WAVE)) (refused 37)
    (walk 0 (record { rate = None; count = None }) (drop 12 file)))))
