-- Demand 3 of each station: lists of score calls on a session of eight stations. "For any list of calls over several stations, a station ends as if only its own calls had been
-- made, and demand 3 holds of each station over the calls that name it."
use Rattle.std.specs.Prelude.{ℕ, ◌+◌, ◌<◌, ◌≡◌, ◌≢◌, List, [], ◌∷◌, ◌++◌, map, cond, eqb}
use Rattle.rng.specs.SplitMix64.{state_after}
use Rattle.outcome.specs.Answer.{Result, refused, seen, reported}
use Rattle.score.specs.Score.{Score}
use Rattle.score_contract.specs.ScoreCall.{Event, score_in}
use Rattle.score_contract.specs.SessionCall.{SessionEvent, SessionScored, on_station}
use Rattle.session.specs.Opened.{seed_in, count_in, station_in}
use Rattle.session.specs.declared.session.Session.{Session}
use Rattle.tally.specs.Claim.{seen_in, reported_in, Agrees}

-- A list of score calls, accepted or refused, over any stations, from the session a to the session b. Each call meets the contract of `render_seq` on the session as the last
-- one left it, and nothing else writes it.
pub data Runs : Session → List SessionEvent → Session → Type 0 where
  no_call : {a : Session} → Runs a [] a
  next_call : {a b : Session} {es : List SessionEvent} (e : SessionEvent) → SessionScored a e → Runs e.answer.session es b → Runs a (e ∷ es) b

-- what a call was handed, and what was seen of it
abbrev pub score_on : SessionEvent → Score
score_on e = score_in (on_station e)

abbrev pub seen_on : SessionEvent → Result
seen_on e = seen e.answer.outcome e.out

-- "the calls that name it": those of a list, in their order, each as a call on station k alone
unfoldable pub own_calls : ℕ → List SessionEvent → List Event
own_calls k [] = []
own_calls k (e ∷ es) = cond (eqb e.station k) (on_station e ∷ own_calls k es) (own_calls k es)

-- the draw of station k after a list of calls on the session a: its count, and what the calls that name it reported
abbrev pub draw_at : Session → List SessionEvent → ℕ → ℕ
draw_at a es k = count_in a k + reported_in (own_calls k es)

-- The claim: each station agrees with the tally of the calls that name it, so that it ends at draw c + T with the generator s + (c + T) × G mod 2^64, T over the accepted calls
-- that name it, and each of its calls answers what that tally says; no seed moves; and a call that names no station is refused with 33.
pub record StationsAgree (a : Session) (es : List SessionEvent) (b : Session) : Type 0 where
  pub stations : (k : ℕ) → k < 8 → Agrees (seed_in a k) (count_in a k) (own_calls k es) (station_in b k)
  pub seeds : b.seeds ≡ a.seeds
  pub nowhere : (es₁ : List SessionEvent) (e : SessionEvent) (es₂ : List SessionEvent) → es ≡ es₁ ++ e ∷ es₂ → 7 < e.station → seen_on e ≡ refused 33

-- And the generator that the program handed back from each call that names a station stands at the draw after that call.
pub record GeneratorsAgree (a : Session) (es : List SessionEvent) : Type 0 where
  pub each : (es₁ : List SessionEvent) (e : SessionEvent) (es₂ : List SessionEvent) → es ≡ es₁ ++ e ∷ es₂ → e.station < 8
      → e.answer.rng.0 ≡ state_after (seed_in a e.station) (draw_at a es₁ e.station + reported (seen_on e))

-- The second list is the first with the calls that do not name station k left out; what is kept was handed the same.
pub data LeftOut (k : ℕ) : List SessionEvent → List SessionEvent → Type 0 where
  nothing : LeftOut k [] []
  leaves : {es es' : List SessionEvent} (e : SessionEvent) → e.station ≢ k → LeftOut k es es' → LeftOut k (e ∷ es) es'
  keeps : {es es' : List SessionEvent} (e e' : SessionEvent) → e.station ≡ k → e'.station ≡ k → score_on e ≡ score_on e' → LeftOut k es es' → LeftOut k (e ∷ es) (e' ∷ es')

-- "a station ends as if only its own calls had been made", and its calls answered the same
pub record AsAlone (k : ℕ) (es es' : List SessionEvent) (b b' : Session) : Type 0 where
  pub end : station_in b k ≡ station_in b' k
  pub answers : map seen_in (own_calls k es) ≡ map seen_on es'
