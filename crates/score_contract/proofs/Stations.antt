-- A score call on a session, and the same call on its station alone. Assumes nothing.
use Prim.Native.Nat.{ℕ, zero, suc, ◌+◌, ◌≤◌, ◌<◌}
use mathlib.Core.Path.{◌≡◌, refl, sym, ap, ◌∙◌, subst}
use mathlib.Core.Logic.{◌≢◌}
use mathlib.Core.List.{List, [], ◌∷◌}
use native.Mathlib.Omega.{arith}
use borrow.Author.Tests.{lt-ltb, le-ltb}
use lib.ListN.{length, drop, get_or, set, length-set, get_or-eq_default}
use lib.Seq.{get_or-set_same, get_or-set_other}
use Rattle.rng.specs.SplitMix64.{state_after}
use Rattle.rng.proofs.States.{state_add}
use Rattle.outcome.specs.Answer.{Result, refused, accepted, seen, out_after, free}
use Rattle.session.specs.Opened.{seed_in, count_in, station_at, session_at, station_in, counted, Eight}
use Rattle.session.specs.Named.{named_in, answered_in, no_station}
use Rattle.session.specs.declared.session.Session.{Session}
use Rattle.session.specs.declared.session.Answer.{Answer}
use Rattle.std.specs.Prelude.{None, Some}
use Rattle.session.specs.declared.station.Station.{Station}
use Rattle.session.specs.declared.station.StationAnswer.{StationAnswer}
use Rattle.session.proofs.Naming.{named_one, named_none}
use Rattle.score_contract.specs.ScoreCall.{Event, Scored, result_in, station_after}
use Rattle.score_contract.specs.SessionCall.{SessionEvent, SessionScored, on_station, result_at, result_on, session_after}

-- ---- counts
set_own : {A : Type 0} (l : List A) (k : ℕ) (d : A) → k < length l → set l k (get_or l k d) ≡ l
set_own [] k d lt = absurd (omega arith)
set_own (x ∷ xs) zero d lt = refl
set_own (x ∷ xs) (suc k) d lt = ap (λ (l : List _). x ∷ l) (set_own xs k d (omega arith))

module _ (a : Session) (eight : Eight a) (k : ℕ) (lt : k < 8) where
  in_counts : k < length a.draws
  in_counts = omega (arith, eight.counts)

  -- its own count leaves a session as it is
  own_count : counted a k (count_in a k) ≡ a
  own_count = λ j. record { seeds = a.seeds; draws = set_own a.draws k 0 in_counts j }

  -- a station's count after it is set
  pub count_set : (d : ℕ) → count_in (counted a k d) k ≡ d
  count_set d = get_or-set_same a.draws k d 0 in_counts

pub count_other : (a : Session) (k k' d : ℕ) → k' ≢ k → count_in (counted a k d) k' ≡ count_in a k'
count_other a k k' d other = get_or-set_other a.draws k k' d 0 other

-- ---- a result, and what it leaves of a session and of a station
module _ (a : Session) where
  pub eight_after : Eight a → (k : ℕ) (r : Result) → Eight (session_after a k r)
  eight_after eight k (refused number) = eight
  eight_after eight k (accepted draws frames) = record { seeds = eight.seeds; counts = length-set a.draws k _ ∙ eight.counts }

  pub seeds_after : (k : ℕ) (r : Result) → (session_after a k r).seeds ≡ a.seeds
  seeds_after k (refused number) = refl
  seeds_after k (accepted draws frames) = refl

  station_after_lem : Eight a → (k : ℕ) → k < 8 → (r : Result) → station_in (session_after a k r) k ≡ station_after (station_in a k) r
  station_after_lem eight k lt (refused number) = refl
  station_after_lem eight k lt (accepted draws frames) =
      let d = count_in a k in
      let at = count_set a eight k lt (d + draws) in
      λ j. record { rng = record { 0 = (ap (state_after (seed_in a k)) at ∙ sym (state_add (seed_in a k) d draws)) j }; draw = at j }

  others_after : (k k' : ℕ) → k' ≢ k → (r : Result) → station_in (session_after a k r) k' ≡ station_in a k'
  others_after k k' other (refused number) = refl
  others_after k k' other (accepted draws frames) = ap (station_at (seed_in a k')) (count_other a k k' (count_in a k + draws) other)

  -- the session whose station k has the count that the call on it left
  counted_after : Eight a → (k : ℕ) → k < 8 → (r : Result) → counted a k (station_after (station_in a k) r).draw ≡ session_after a k r
  counted_after eight k lt (refused number) = own_count a eight k lt
  counted_after eight k lt (accepted draws frames) = refl

  -- the counts with that of station k taken from the session after the call are that session's
  pub set_after : Eight a → (k : ℕ) → k < 8 → (r : Result) → set a.draws k (count_in (session_after a k r) k) ≡ (session_after a k r).draws
  set_after eight k lt (refused number) = set_own a.draws k 0 (in_counts a eight k lt)
  set_after eight k lt (accepted draws frames) = ap (set a.draws k) (count_set a eight k lt (count_in a k + draws))

-- ---- a call
module _ (a : Session) (e : SessionEvent) where
  -- a call that names no station
  pub nowhere : 7 < e.station → result_on a e ≡ refused 33
  unfolding result_at
  nowhere past = rw (lt-ltb 7 e.station past)

  named : e.station < 8 → result_on a e ≡ result_in (station_in a e.station) (on_station e)
  unfolding result_at
  named lt = let le : e.station ≤ 7 = omega arith in rw (le-ltb 7 e.station le) refl

  -- THE THEOREM: a call that names a station is the call on that station
  pub on_station_lem : Eight a → e.station < 8 → SessionScored a e → Scored (station_in a e.station) (on_station e)
  on_station_lem eight lt scored =
      let k = e.station in
      let q = named lt in record {
        answer = scored.answer ∙ q;
        station = ap (λ (b : Session). station_in b k) scored.session ∙ station_after_lem a eight k lt (result_on a e) ∙ ap (station_after (station_in a k)) q;
        frames = scored.frames ∙ ap (out_after e.out₀) q;
        buffer = rw q at scored.buffer;
        string = rw q at scored.string;
      }

  -- and leaves every other station as it was
  pub others_stay : (k : ℕ) → k ≢ e.station → SessionScored a e → station_in e.answer.session k ≡ station_in a k
  others_stay k other scored = ap (λ (b : Session). station_in b k) scored.session ∙ others_after a e.station k other (result_on a e)

  pub eight_stays : Eight a → SessionScored a e → Eight e.answer.session
  eight_stays eight scored = rw scored.session (eight_after a eight e.station (result_on a e))

  pub seeds_stay : SessionScored a e → e.answer.session.seeds ≡ a.seeds
  seeds_stay scored = ap (λ (b : Session). b.seeds) scored.session ∙ seeds_after a e.station (result_on a e)

-- a call on station 0 of the session that a seed and a draw open
pub first_station : (seed draw : ℕ) (a : Session) (e : SessionEvent) → a ≡ session_at seed draw → e.station ≡ 0 → SessionScored a e → Scored (station_at seed draw) (on_station e)
first_station seed draw a e opened first scored =
    let eight : Eight a = rw opened (record { seeds = refl; counts = refl }) in
    let named : e.station < 8 = omega (arith, first) in
    subst (λ (x : Station). Scored x (on_station e)) (λ j. station_in (opened j) (first j)) (on_station_lem a e eight named scored)

-- ---- how the call on a session comes from the call on its station
-- the call on the station with the answer that it had
abbrev pub answered : SessionEvent → StationAnswer → Event
answered e one = record {
  seq = e.seq;
  notes = e.notes;
  lane = e.lane;
  out₀ = e.out₀;
  buffer₀ = e.buffer₀;
  string₀ = e.string₀;
  answer = one;
  out = e.out;
  buffer = e.buffer;
  string = e.string;
}

module _ (a : Session) (eight : Eight a) (e : SessionEvent) where
  abbrev k : ℕ
  k = e.station

  -- no station: 33
  pub none_named : named_in a k ≡ None → e.answer ≡ no_station a → e.out ≡ e.out₀ → e.buffer ≡ e.buffer₀ → e.string ≡ e.string₀ → SessionScored a e
  none_named none-such ans o b s =
      let past = named_none a k none-such in
      let q = nowhere a e past in
      let seed : seed_in a k ≡ 0 = get_or-eq_default a.seeds 0 (omega (arith, eight.seeds)) in
      let count : count_in a k ≡ 0 = get_or-eq_default a.draws 0 (omega (arith, eight.counts)) in
      let none : state_after (seed_in a k) (count_in a k) ≡ 0 = rw (seed, count) refl in record {
        answer = ap (λ (x : Answer). seen x.outcome e.out) ans ∙ sym q;
        session = ap (λ (x : Answer). x.session) ans ∙ ap (session_after a k) (sym q);
        generator = ap (λ (x : Answer). x.rng.0) ans ∙ sym none ∙ ap (λ (x : Answer). state_after (seed_in x.session k) (count_in x.session k)) (sym ans);
        frames = o ∙ ap (out_after e.out₀) (sym q);
        buffer = ap (drop (free (length e.out₀) (result_on a e))) b;
        string = ap (drop (free 9600 (result_on a e))) s;
      }

  -- the count of the station after its call is put back, and its generator handed on
  pub put_back : {x : Station} → named_in a k ≡ Some x → (one : StationAnswer) → Scored x (answered e one) → e.answer ≡ answered_in a k one → SessionScored a e
  put_back is one on-it ans =
      let lt = (named_one a k is).0 in
      let scored = subst (λ (x : Station). Scored x (answered e one)) (named_one a k is).1 on-it in
      let r = result_in (station_in a k) (on_station e) in
      let q = named a e lt in
      let after : e.answer.session ≡ session_after a k r
      = ap (λ (x : Answer). x.session) ans ∙ ap (λ (x : Station). counted a k x.draw) scored.station ∙ counted_after a eight k lt r in
      let at : one.station.rng.0 ≡ (station_in (session_after a k r) k).rng.0 = ap (λ (x : Station). x.rng.0) (scored.station ∙ sym (station_after_lem a eight k lt r)) in record {
        answer = ap (λ (x : Answer). seen x.outcome e.out) ans ∙ scored.answer ∙ sym q;
        session = after ∙ ap (session_after a k) (sym q);
        generator = ap (λ (x : Answer). x.rng.0) ans ∙ at ∙ ap (λ (b : Session). (station_in b k).rng.0) (sym after);
        frames = scored.frames ∙ ap (out_after e.out₀) (sym q);
        buffer = rw q scored.buffer;
        string = rw q scored.string;
      }
