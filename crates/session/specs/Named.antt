-- The station that a call names, and what the call answers from what that station answers: "A score call names its station"; "It refuses a station above 7 with 33, before 1".
use Rattle.std.specs.Prelude.{ℕ, cond, ltb, Err, None, Option, Some}
use Rattle.outcome.specs.declared.answer.Refusal.TheVariants as refusals
use Rattle.session.specs.Opened.{station_in, counted}
use Rattle.session.specs.declared.session.Answer.{Answer}
use Rattle.session.specs.declared.session.Session.{Session}
use Rattle.session.specs.declared.station.Station.{Station}
use Rattle.session.specs.declared.station.StationAnswer.{StationAnswer}

unfoldable pub named_in : Session → ℕ → Option Station
named_in s k = cond (ltb 7 k) None (Some (station_in s k))

-- the count of station k is that of the station after the call
abbrev pub answered_in : Session → ℕ → StationAnswer → Answer
answered_in s k a = record { session = counted s k a.station.draw; rng = a.station.rng; outcome = a.outcome }

-- the session stays; there is no generator to hand back, and that of the state 0 stands for it
abbrev pub no_station : Session → Answer
no_station s = record { session = s; rng = record { 0 = 0 }; outcome = Err refusals.NoStation }
