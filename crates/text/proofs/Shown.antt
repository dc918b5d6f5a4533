-- The listing of a text score: of its one call by the theorem about lists of calls, and of a text that was judged. Assumes nothing.
use Prim.Native.Nat.{ℕ, ◌*◌}
use mathlib.Core.Path.{◌≡◌, ap, ◌∙◌}
use mathlib.Core.List.{List, [], ◌∷◌}
use lib.ListN.{take}
use Rattle.rng.specs.SplitMix64.{state_after}
use Rattle.outcome.specs.Answer.{Result}
use Rattle.score.specs.Score.{Score}
use Rattle.score_contract.specs.ScoreCall.{Event, Scored, score_in}
use Rattle.score_contract.specs.SessionCall.{SessionEvent, SessionScored, on_station}
use Rattle.score_contract.proofs.Stations.{first_station}
use Rattle.session.specs.Opened.{station_at, session_at, station_in}
use Rattle.score.specs.declared.seq.Seq.{Seq}
use Rattle.session.specs.declared.session.Session.{Session}
use Rattle.session.specs.declared.station.Station.{Station}
use Rattle.tally.specs.Tally.{tally}
use Rattle.tally.specs.Claim.{none, call, seen_in}
use Rattle.tally.proofs.AllCalls.{all_calls}
use Rattle.text_read.specs.Text.{seq_of, text_of}
use Rattle.text_read.specs.declared.text.TextScore.{TextScore}
use Rattle.text_listing.specs.Lines.{printed_r}
use Rattle.text_reply.specs.Shown.{shown_at}
use Rattle.text_judge.specs.Call.{call_of}
use Rattle.text_judge.specs.Judged.{Judges}
use Rattle.std.specs.Prelude.{Err}
use Rattle.std.specs.Prelude as std
use Rattle.text_judge.proofs.Past.{Past, judged_refused}
use Rattle.text.specs.Listing.{shown_one, shown, played, played_read, listing}

-- a session at a draw shows what its seed and that draw do
shown_session : (seed end : ℕ) (b : Station) (r : Result) → b ≡ station_at seed end → shown_at b.rng.0 b.draw r ≡ shown_at (state_after seed end) end r
shown_session seed end b r e = ap (λ (x : Station). shown_at x.rng.0 x.draw r) e

pub one_call : (seed draw : ℕ) (e : Event) → Scored (station_at seed draw) e
    → shown_at e.answer.station.rng.0 e.answer.station.draw (seen_in e) ≡ shown seed (tally seed draw (score_in e ∷ []))
one_call seed draw e scored =
    let all = all_calls seed draw (e ∷ []) e.answer.station (call e scored none) in
    let t = tally seed draw (score_in e ∷ []) in
    shown_session seed t.end e.answer.station (seen_in e) all.station ∙ ap (shown_one seed t.end) all.results

-- the call of a text score that was made on station 0 of an opened session, and the buffers that it was lent
pub played_by : (seq : Seq) (notes : List ℕ) (n seed draw : ℕ) (a : Session) (e : SessionEvent) → a ≡ session_at seed draw → e.station ≡ 0 → SessionScored a e
    → score_in (on_station e) ≡ call_of seq notes n
    → shown_at (station_in e.answer.session e.station).rng.0 (station_in e.answer.session e.station).draw (seen_in (on_station e)) ≡ played seq notes n seed draw
unfolding played
played_by seq notes n seed draw a e opened first scored is =
    one_call seed draw (on_station e) (first_station seed draw a e opened first scored) ∙ ap (λ (s : Score). shown seed (tally seed draw (s ∷ []))) is

-- ---- which listing a text has that was judged
pub listing_refused : {text words₀ words : List ℕ} {r : std.Result TextScore ℕ} (h : Judges text words₀ r words) {n : ℕ} → r ≡ Err n → printed_r n ≡ listing text
unfolding listing
listing_refused {text} h is = judged_refused h printed_r (played_read (text_of text)) is

pub listing_played : {text : List ℕ} {x : TextScore} {words : List ℕ} (p : Past text x words)
    → played (seq_of x.numbers x.env x.sound) (take (x.count * 5) words) x.numbers.n x.seed x.draw ≡ listing text
unfolding listing
listing_played p =
    rw (p.none, p.is) (λ j.
    let y = p.score j in
    played (seq_of y.numbers y.env y.sound) (p.notes j) y.numbers.n y.seed y.draw)
