-- A score call on a session of eight stations: "A score call names its station, and 22 looks at that station's count."
use Rattle.std.specs.Prelude.{ℕ, ◌+◌, ◌≡◌, List, cond, ltb, length, drop, Float}
use Rattle.rng.specs.SplitMix64.{state_after}
use Rattle.outcome.specs.Answer.{number_of, Result, refused, accepted, seen, out_after, free}
use Rattle.outcome.specs.declared.answer.Refusal.TheVariants.{NoStation}
use Rattle.score.specs.Score.{Score}
use Rattle.score.specs.declared.seq.Seq.{Seq}
use Rattle.session.specs.Opened.{seed_in, count_in, station_in, counted}
use Rattle.session.specs.declared.session.Session.{Session}
use Rattle.session.specs.declared.session.Answer.{Answer}
use Rattle.score_contract.specs.ScoreCall.{Event, score_in, result_of}

-- A score call: the station that it names, what it was handed and lent, what it answered, and what the lent buffers then hold.
pub record SessionEvent : Type 0 where
  pub station : ℕ
  pub seq : Seq
  pub notes : List ℕ
  pub lane : List Float
  pub out₀ : List Float
  pub buffer₀ : List Float
  pub string₀ : List Float
  pub answer : Answer
  pub out : List Float
  pub buffer : List Float
  pub string : List Float

-- the same as a call on its station alone, which it leaves as the session after it has it
abbrev pub on_station : SessionEvent → Event
on_station e = record {
  seq = e.seq;
  notes = e.notes;
  lane = e.lane;
  out₀ = e.out₀;
  buffer₀ = e.buffer₀;
  string₀ = e.string₀;
  answer = record { station = station_in e.answer.session e.station; outcome = e.answer.outcome };
  out = e.out;
  buffer = e.buffer;
  string = e.string;
}

-- What a call on station k comes to: "It refuses a station above 7 with 33, before 1", else it is what it is on that station.
unfoldable pub result_at : Session → ℕ → Score → Result
result_at a k s = cond (ltb 7 k) (refused (number_of NoStation)) (result_of s (station_in a k).rng.0 (station_in a k).draw)

abbrev pub result_on : Session → SessionEvent → Result
result_on a e = result_at a e.station (score_in (on_station e))

-- "A refusal .. changes nothing"; an accepted call adds its draws to the count of its station, and the other seven stay as they were
abbrev pub session_after : Session → ℕ → Result → Session
session_after a k (refused number) = a
session_after a k (accepted draws frames) = counted a k (count_in a k + draws)

-- The contract of a score call on the session a. The buffers are as in `Scored`.
pub record SessionScored (a : Session) (e : SessionEvent) : Type 0 where
  pub answer : seen e.answer.outcome e.out ≡ result_on a e
  pub session : e.answer.session ≡ session_after a e.station (result_on a e)
  -- the generator that the playing handed back stands where the station's new count says
  pub generator : e.answer.rng.0 ≡ state_after (seed_in e.answer.session e.station) (count_in e.answer.session e.station)
  pub frames : e.out ≡ out_after e.out₀ (result_on a e)
  pub buffer : drop (free (length e.out₀) (result_on a e)) e.buffer ≡ drop (free (length e.out₀) (result_on a e)) e.buffer₀
  pub string : drop (free 9600 (result_on a e)) e.string ≡ drop (free 9600 (result_on a e)) e.string₀
