-- What a score call and a planning call are handed beside their station, notes and lane, as numbers and lists; and the voice and the envelope, the session and the `Seq` that these stand for.
use Rattle.std.specs.Prelude.{ℕ, ◌%◌, List, Bool, false, cond, eqb, length, Float, Option, Some, None}
use Rattle.dsl.specs.declared.knobs.Adsr.{Adsr}
use Rattle.dsl.specs.declared.knobs.SeqVoice.{SeqVoice}
use Rattle.score.specs.declared.seq.Seq.{Seq}
use Rattle.session.specs.declared.session.Session.{Session}
use Rattle.raw_knobs.specs.Knobs.{voice_at, env_at}
use Rattle.raw_map.specs.Words.{map_of}

-- `points` has the words of the tempo map, `counts` the stations' draw counts.
pub record Raw : Type 0 where
  pub seeds : List ℕ
  pub counts : List ℕ
  pub rate : ℕ
  pub tempo : Float
  pub steps_per_beat : ℕ
  pub points : List ℕ
  pub swing : Float
  pub humanize : Float
  pub hop : ℕ
  pub wave : ℕ
  pub style : ℕ
  pub duty : Float
  pub knobs : List Float
  pub bars : List Float
  pub env : List Float

abbrev pub session_by : List ℕ → List ℕ → Session
session_by seeds counts = record { seeds = seeds; draws = counts }

-- the session that was handed in
abbrev pub session_in : Raw → Session
session_in h = session_by h.seeds h.counts

abbrev pub seq_by : ℕ → Float → ℕ → List ℕ → Float → Float → ℕ → SeqVoice → Float → Adsr → Seq
seq_by rate tempo steps points swing humanize hop voice duty env = record {
  timing = record { rate = rate; tempo = tempo; steps_per_beat = steps; tempo_map = map_of points; swing = swing; humanize = humanize };
  hop = hop;
  voice = voice;
  duty = duty;
  env = env;
}

-- the rest, with the voice v and the envelope a
abbrev pub seq_with : SeqVoice → Adsr → Raw → Seq
seq_with v a h = seq_by h.rate h.tempo h.steps_per_beat h.points h.swing h.humanize h.hop v h.duty a

-- eight seeds, eight counts, and four words a point
abbrev pub whole_of : ℕ → ℕ → ℕ → Bool
whole_of seeds counts points = cond (eqb seeds 8) (cond (eqb counts 8) (eqb (points % 4) 0) false) false

-- a voice and an envelope, or none where no call is made
abbrev pub Parts : Type 0
Parts = Option (SeqVoice × Adsr)

-- none without a voice, an envelope and whole lists
abbrev pub parts_with : Option SeqVoice → Option Adsr → Bool → Parts
parts_with (Some v) (Some a) whole = cond whole (Some (v, a)) None
parts_with (Some v) None whole = None
parts_with None env whole = None

abbrev pub parts_in : Raw → Parts
parts_in h = parts_with (voice_at h.wave h.style h.knobs h.bars) (env_at h.env) (whole_of (length h.seeds) (length h.counts) (length h.points))
