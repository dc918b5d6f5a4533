-- The chunks that may stand before data in a file that is read: fmt and fact once each, in either order, and any of other names.
use Rattle.std.specs.Prelude.{Option, Some, None, ℕ, ◌%◌, ◌^◌, ◌<◌, ◌≡◌, List, [], ◌++◌, false, length, eqb}
use Rattle.wave_file.specs.Bytes.{field_at}
use Rattle.wave_file.specs.Chunk.{FMT, FACT, DATA, chunk}
use Rattle.wave_read.specs.declared.chunks.Met.{Met}

-- "a tag, channel count or sample width" of "3, 1 and 32", and a size of 18; nothing of the other fields
pub record Fmt (rate : ℕ) (body : List ℕ) : Type 0 where
  pub size : length body ≡ 18
  pub tag : field_at 2 0 body ≡ 3
  pub channels : field_at 2 2 body ≡ 1
  pub rated : field_at 4 4 body ≡ rate
  pub width : field_at 2 14 body ≡ 32

pub record Fact (count : ℕ) (body : List ℕ) : Type 0 where
  pub size : length body ≡ 4
  pub counted : field_at 4 0 body ≡ count

-- a chunk of another name, with its padding byte when odd, whatever that byte is
pub record Other (name : ℕ) (body pad : List ℕ) : Type 0 where
  pub letters : name < 256 ^ 4
  pub size : length body < 256 ^ 4
  pub no_fmt : eqb name FMT ≡ false
  pub no_fact : eqb name FACT ≡ false
  pub no_data : eqb name DATA ≡ false
  pub padded : length pad ≡ length body % 2

-- with m met before these bytes, m' is met behind them
pub data Row : Met → List ℕ → Met → Type 0 where
  none : {m : Met} → Row m [] m
  other : {m m' : Met} {bs : List ℕ} {name : ℕ} {body pad : List ℕ} → Other name body pad → Row m bs m' → Row m (chunk name body ++ (pad ++ bs)) m'
  fmt : {count : Option ℕ} {m' : Met} {bs : List ℕ} {rate : ℕ} {body : List ℕ} → Fmt rate body
      → Row (record { rate = Some rate; count = count }) bs m' → Row (record { rate = None; count = count }) (chunk FMT body ++ bs) m'
  fact : {rate : Option ℕ} {m' : Met} {bs : List ℕ} {count : ℕ} {body : List ℕ} → Fact count body
      → Row (record { rate = rate; count = Some count }) bs m' → Row (record { rate = rate; count = None }) (chunk FACT body ++ bs) m'
