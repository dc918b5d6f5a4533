-- RIFF: a file is a row of chunks. A chunk is its name of four letters (ck_id), the length of its body in bytes (ck_size, 32 bits), its body (ck_data) and, where that length
-- is odd, a padding byte. A name is the number that its letters stand for.
use Rattle.std.specs.Prelude.{ℕ, ◌+◌, ◌%◌, List, ◌++◌, length, take, drop}
use Rattle.wave_file.specs.Bytes.{little_endian, field_at}

-- the letters R I F F, W A V E, f m t and a space, f a c t, d a t a, the first one lowest
abbrev pub RIFF : ℕ
RIFF = 0x46464952

abbrev pub WAVE : ℕ
WAVE = 0x45564157

abbrev pub FMT : ℕ
FMT = 0x20746d66

abbrev pub FACT : ℕ
FACT = 0x74636166

abbrev pub DATA : ℕ
DATA = 0x61746164

-- the chunk at the start of some bytes
abbrev pub ck_id : List ℕ → ℕ
ck_id bs = field_at 4 0 bs

abbrev pub ck_size : List ℕ → ℕ
ck_size bs = field_at 4 4 bs

abbrev pub ck_data : List ℕ → List ℕ
ck_data bs = take (ck_size bs) (drop 8 bs)

-- what a chunk with a body of `size` bytes takes, with its padding byte when odd
abbrev pub chunk_length : ℕ → ℕ
chunk_length size = 8 + size + size % 2

-- a chunk with a body of an even length
abbrev pub chunk : ℕ → List ℕ → List ℕ
chunk name body = little_endian 4 name ++ (little_endian 4 (length body) ++ body)
