-- A session of eight stations: "a record of eight seeds with eight counts".
use Rattle.std.specs.Prelude.{ℕ, ◌≡◌, [], ◌∷◌, length, get_or, set}
use Rattle.rng.specs.SplitMix64.{state_after}
use Rattle.session.specs.declared.station.Station.{Station}
use Rattle.session.specs.declared.session.Session.{Session}

-- a station opened with the seed `seed` at draw d: "state s + c × G modulo 2^64"
abbrev pub station_at : ℕ → ℕ → Station
station_at seed d = record { rng = record { 0 = state_after seed d }; draw = d }

-- the session that a text score's G line opens: station 0, and the others with seed 0 at draw 0
abbrev pub session_at : ℕ → ℕ → Session
session_at seed d = record { seeds = seed ∷ 0 ∷ 0 ∷ 0 ∷ 0 ∷ 0 ∷ 0 ∷ 0 ∷ []; draws = d ∷ 0 ∷ 0 ∷ 0 ∷ 0 ∷ 0 ∷ 0 ∷ 0 ∷ [] }

-- the seed and the count of station k
abbrev pub seed_in : Session → ℕ → ℕ
seed_in s k = get_or s.seeds k 0

abbrev pub count_in : Session → ℕ → ℕ
count_in s k = get_or s.draws k 0

-- station k: its generator is its seed, set at its count
abbrev pub station_in : Session → ℕ → Station
station_in s k = station_at (seed_in s k) (count_in s k)

-- the session with the count d of station k; all else stays
abbrev pub counted : Session → ℕ → ℕ → Session
counted s k d = record { seeds = s.seeds; draws = set s.draws k d }

-- eight of each, as every session has
pub record Eight (s : Session) : Type 0 where
  pub seeds : length s.seeds ≡ 8
  pub counts : length s.draws ≡ 8
