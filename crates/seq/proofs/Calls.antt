-- The ways in which a score call ends. Assumes nothing.
use Prim.Native.Nat.{ℕ, ◌+◌, ◌-◌, ◌^◌, ◌<◌}
use mathlib.Core.Path.{◌≡◌, sym, ap, ◌∙◌}
use mathlib.Core.Bool.{true, false}
use native.Mathlib.Omega.{arith}
use borrow.Author.Tests.{leb-true}
use lib.ListN.{length, drop}
use lib.Dec.{leb}
use Rattle.rng.specs.SplitMix64.{state_after}
use Rattle.rng.specs.declared.Rng.{Rng}
use Rattle.outcome.specs.Answer.{Result, accepted, unless, seen, out_after, free}
use Rattle.std.specs.Prelude.{Ok, Err}
use Rattle.outcome.specs.declared.answer.Refusal.{Refusal}
use Rattle.outcome.specs.declared.answer.Refusal.TheVariants.{Draws}
use Rattle.outcome.specs.Outcome.{Verdict}
use Rattle.score.specs.Score.{score_draws}
use Rattle.score_contract.specs.Frames.{score_frames}
use Rattle.score.specs.Refusals.{refusal, refusal_at}
use Rattle.score_contract.specs.ScoreCall.{Event, Scored, score_in, station_after, result_of, result_in}
use Rattle.session.specs.declared.station.Station.{Station}
use Rattle.session.specs.declared.station.StationAnswer.{StationAnswer}
use Rattle.score_draws.proofs.Last.{refused_first, refused_last, refused_not}

-- ---- a call on the station a
module _ (a : Station) (e : Event) where
  abbrev at : Verdict
  at = refusal_at (score_in e) a.draw

  abbrev full : Result
  full = accepted (score_draws (score_in e)) (score_frames (score_in e) a.rng.0 0)

  comes_to : {v : Verdict} → v ≡ at → result_in a e ≡ unless v full
  unfolding result_of
  comes_to n = ap (λ (v : Verdict). unless v full) (sym n)

  refused_by : {r : Refusal} → Err r ≡ at → e.answer ≡ record { station = a; outcome = Err r } → e.out ≡ e.out₀ → e.buffer ≡ e.buffer₀ → e.string ≡ e.string₀ → Scored a e
  refused_by n ans o b s =
      let q = comes_to n in record {
        answer = ap (λ (x : StationAnswer). seen x.outcome e.out) ans ∙ sym q;
        station = ap (λ (x : StationAnswer). x.station) ans ∙ ap (station_after a) (sym q);
        frames = o ∙ ap (out_after e.out₀) (sym q);
        buffer = ap (drop (free (length e.out₀) (result_in a e))) b;
        string = ap (drop (free 9600 (result_in a e))) s;
      }

  accepted_by_lem : Ok tt ≡ at → (g : Rng) (t : ℕ) → t ≡ score_draws (score_in e) → g.0 ≡ state_after a.rng.0 (score_draws (score_in e))
      → e.answer ≡ record { station = record { rng = g; draw = a.draw + t }; outcome = Ok t } → e.out ≡ score_frames (score_in e) a.rng.0 0
      → drop (length e.out₀) e.buffer ≡ drop (length e.out₀) e.buffer₀ → drop 9600 e.string ≡ drop 9600 e.string₀ → Scored a e
  accepted_by_lem n g t et eg ans o b s =
      let q = comes_to n in record {
        answer = ap (λ (x : StationAnswer). seen x.outcome e.out) ans ∙ (λ j. accepted (et j) (o j)) ∙ sym q;
        station = ap (λ (x : StationAnswer). x.station) ans ∙ (λ j. record { rng = record { 0 = eg j }; draw = a.draw + et j }) ∙ ap (station_after a) (sym q);
        frames = o ∙ ap (out_after e.out₀) (sym q);
        buffer = rw q b;
        string = rw q s;
      }

  -- what the draws may not pass
  abbrev left : ℕ
  left = 2 ^ 64 - 1 - a.draw

  -- a refusal that is not 22
  pub refused_call : {r : Refusal} → Err r ≡ refusal (score_in e) → e.answer ≡ record { station = a; outcome = Err r } → e.out ≡ e.out₀ → e.buffer ≡ e.buffer₀
      → e.string ≡ e.string₀ → Scored a e
  refused_call n = refused_by (refused_first (score_in e) a.draw n)

  module _ (none : Ok tt ≡ refusal (score_in e)) (fits : a.draw < 2 ^ 64) where
    pub overdrawn_call : leb (score_draws (score_in e)) left ≡ false → e.answer ≡ record { station = a; outcome = Err Draws } → e.out ≡ e.out₀ → e.buffer ≡ e.buffer₀
        → e.string ≡ e.string₀ → Scored a e
    overdrawn_call over = refused_by (refused_last (score_in e) a.draw none fits over)

    pub accepted_call : (g : Rng) (t : ℕ) → leb (score_draws (score_in e)) left ≡ true → t ≡ score_draws (score_in e) → g.0 ≡ state_after a.rng.0 (score_draws (score_in e))
        → e.answer ≡ record { station = record { rng = g; draw = a.draw + t }; outcome = Ok t } → e.out ≡ score_frames (score_in e) a.rng.0 0
        → drop (length e.out₀) e.buffer ≡ drop (length e.out₀) e.buffer₀ → drop 9600 e.string ≡ drop 9600 e.string₀ → Scored a e
    accepted_call g t fit = accepted_by_lem (refused_not (score_in e) a.draw none fits fit) g t

-- what a fitting score draws is a count of 64 bits
pub draws_below_lem : (d D : ℕ) → leb D (2 ^ 64 - 1 - d) ≡ true → D < 2 ^ 64
draws_below_lem d D fit = omega (arith, leb-true D (2 ^ 64 - 1 - d) fit)

-- the count after an accepted call fits
pub draw_fits : (d D t : ℕ) → d < 2 ^ 64 → leb D (2 ^ 64 - 1 - d) ≡ true → t ≡ D → d + t < 2 ^ 64
draw_fits d D t fits fit is = omega (arith, leb-true D (2 ^ 64 - 1 - d) fit)
