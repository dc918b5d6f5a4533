-- Demand 3: the one claim about every list of score calls.
use Rattle.std.specs.Prelude.{ℕ, ◌+◌, ◌≡◌, List, [], ◌∷◌, map}
use Rattle.outcome.specs.Answer.{Result, seen}
use Rattle.score_contract.specs.ScoreCall.{Event, Scored, score_in}
use Rattle.session.specs.Opened.{station_at}
use Rattle.session.specs.declared.station.Station.{Station}
use Rattle.tally.specs.Tally.{tally, total, drawn_by}

-- A list of score calls on one station, accepted or refused, from the station a to the station b. Each call meets the contract `Scored` on the station as the last one left it, and
-- nothing else writes it.
pub data Run : Station → List Event → Station → Type 0 where
  none : {a : Station} → Run a [] a
  call : {a b : Station} {es : List Event} (e : Event) → Scored a e → Run e.answer.station es b → Run a (e ∷ es) b

-- what was seen of a call: its refusal's number, or its draws and frames
abbrev pub seen_in : Event → Result
seen_in e = seen e.answer.outcome e.out

-- what the program reported of a list of calls, in all
abbrev pub reported_in : List Event → ℕ
reported_in es = total (map seen_in es)

-- "which calls are refused and with what number, the draws each reports, the frames of each accepted call and the session at the end are those of this tally"; the end is draw
-- c + T with the generator at s + (c + T) × 9E3779B97F4A7C15 modulo 2^64
pub record Agrees (s c : ℕ) (es : List Event) (b : Station) : Type 0 where
  pub results : map seen_in es ≡ (tally s c (map score_in es)).results
  pub station : b ≡ station_at s (tally s c (map score_in es)).end
  pub end : (tally s c (map score_in es)).end ≡ c + drawn_by s c (map score_in es)
  -- what the program reported adds up to T
  pub reports : reported_in es ≡ drawn_by s c (map score_in es)
