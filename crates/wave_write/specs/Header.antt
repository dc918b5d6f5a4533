-- "mono 32-bit float WAVE: RIFF, an 18-byte fmt chunk with tag 3, a fact chunk with the frame count, a data chunk; 58 header bytes, little-endian". The fields of fmt are those
-- of WAVEFORMATEX, in its order.
use Rattle.std.specs.Prelude.{ℕ, ◌*◌, List, [], ◌∷◌, ◌++◌, length}
use Rattle.wave_file.specs.Bytes.{little_endian}
use Rattle.wave_file.specs.Chunk.{RIFF, WAVE, FMT, FACT, DATA, chunk}

-- wFormatTag (3 is WAVE_FORMAT_IEEE_FLOAT), nChannels, nSamplesPerSec, nAvgBytesPerSec, nBlockAlign, wBitsPerSample, cbSize
abbrev pub fmt_body : ℕ → List ℕ
fmt_body rate =
    little_endian 2 3
    ++ (little_endian 2 1
    ++ (little_endian 4 rate
    ++ (little_endian 4 (4 * rate)
    ++ (little_endian 2 4
    ++ (little_endian 2 32
    ++ little_endian 2 0)))))

-- four bytes a sample
unfoldable pub sample_bytes : List ℕ → List ℕ
sample_bytes [] = []
sample_bytes (s ∷ ss) = little_endian 4 s ++ sample_bytes ss

-- the file of some samples' bits
unfoldable pub wave_file : ℕ → List ℕ → List ℕ
wave_file rate samples =
    chunk RIFF (little_endian 4 WAVE
    ++ (chunk FMT (fmt_body rate)
    ++ (chunk FACT (little_endian 4 (length samples))
    ++ chunk DATA (sample_bytes samples))))
