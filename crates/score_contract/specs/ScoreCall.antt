-- A score call on one station: its answer, and what it leaves.
use Rattle.std.specs.Prelude.{ℕ, ◌+◌, ◌≡◌, List, length, drop, Float}
use Rattle.rng.specs.SplitMix64.{state_after}
use Rattle.outcome.specs.Answer.{Result, refused, accepted, unless, seen, out_after, free}
use Rattle.score.specs.Score.{Score, handed, score_draws}
use Rattle.score_contract.specs.Frames.{score_frames}
use Rattle.score.specs.Refusals.{refusal_at}
use Rattle.score.specs.declared.seq.Seq.{Seq}
use Rattle.session.specs.declared.station.Station.{Station}
use Rattle.session.specs.declared.station.StationAnswer.{StationAnswer}

-- A score call: what it was handed and lent, what it answered, and what the lent buffers then hold.
pub record Event : Type 0 where
  pub seq : Seq
  pub notes : List ℕ
  pub lane : List Float
  pub out₀ : List Float
  pub buffer₀ : List Float
  pub string₀ : List Float
  pub answer : StationAnswer
  pub out : List Float
  pub buffer : List Float
  pub string : List Float

abbrev pub score_in : Event → Score
score_in e = handed e.seq e.notes e.lane e.out₀ e.buffer₀ e.string₀

-- what a call comes to on a station whose generator stands at g and whose count is d
unfoldable pub result_of : Score → ℕ → ℕ → Result
result_of s g d = unless (refusal_at s d) (accepted (score_draws s) (score_frames s g 0))

abbrev pub result_in : Station → Event → Result
result_in a e = result_of (score_in e) a.rng.0 a.draw

-- "A refusal .. changes nothing"; an accepted call moves the generator and the count by its draws
abbrev pub station_after : Station → Result → Station
station_after a (refused number) = a
station_after a (accepted draws frames) = record { rng = record { 0 = state_after a.rng.0 draws }; draw = a.draw + draws }

-- The contract of a score call on the station a. "Free are only .. after an accepted call, the note buffer's first n and the string buffer's first 9,600 values;
-- the others in these two stay."
pub record Scored (a : Station) (e : Event) : Type 0 where
  pub answer : seen e.answer.outcome e.out ≡ result_in a e
  pub station : e.answer.station ≡ station_after a (result_in a e)
  pub frames : e.out ≡ out_after e.out₀ (result_in a e)
  pub buffer : drop (free (length e.out₀) (result_in a e)) e.buffer ≡ drop (free (length e.out₀) (result_in a e)) e.buffer₀
  pub string : drop (free 9600 (result_in a e)) e.string ≡ drop (free 9600 (result_in a e)) e.string₀
