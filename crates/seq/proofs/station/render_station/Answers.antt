-- `seq::station::render_station` meets its contract. Assumes nothing.
use Prim.Native.Nat.{◌-◌, ◌^◌, ◌<◌}
use mathlib.Core.Path.{◌≡◌, refl, sym, ap, ◌∙◌}
use mathlib.Core.Bool.{true}
use native.Mathlib.Omega.{arith}
use borrow.Author.Tests.{not-false, not-true}
use lib.Dec.{leb}
use Rattle.score.specs.Score.{Score, handed, score_draws}
use Rattle.score_note.specs.declared.Drawn.{Drawn}
use Rattle.seq.proofs.Calls.{refused_call, overdrawn_call, accepted_call, draws_below_lem, draw_fits}
use borrow.Author.Rules.{rules}
use Rattle.seq.proofs.station.render_station.Goals as goal

pub returns-in-Err : goal.returns-in-Err
returns-in-Err c = refused_call _ _ (sym c.in-Err.is ∙ c.score_verdict.ensures) refl refl refl refl

pub overflow_sub-draw : goal.overflow_sub-draw
overflow_sub-draw c =
    let draw_below : c.args.station.draw < 2 ^ 64 = omega arith in
    let fits = draw_below in omega arith

pub draws_fit-requires : goal.draws_fit-requires
draws_fit-requires c = sym (sym c.in_default.is ∙ c.score_verdict.ensures)

pub returns-then-not-draws_fit : goal.returns-then-not-draws_fit
returns-then-not-draws_fit c =
    let draw_below : c.args.station.draw < 2 ^ 64 = omega arith in
    let none = sym c.in_default.is ∙ c.score_verdict.ensures in
    let over = sym c.draws_fit.ensures ∙ not-true _ c.if-not-draws_fit.true-raw in
    overdrawn_call _ _ none draw_below over refl refl refl refl

pub play_counted-played-requires : goal.play_counted-played-requires
play_counted-played-requires c =
    let score_in_start : Score = handed c.args.seq c.args.notes.now c.args.lane.now c.args.out.now c.args.note_buf.now c.args.string.now in
    let fit : leb (score_draws score_in_start) (2 ^ 64 - 1 - c.args.station.draw) ≡ true = sym c.draws_fit.ensures ∙ not-false _ c.if-not-draws_fit.false-raw in
    record {
      lent_value = sym (sym c.in_default.is ∙ c.score_verdict.ensures);
      out_len = refl;
      note_buf_len = refl;
      string_len = refl;
      lent_bound = draws_below_lem _ _ fit;
    }

pub overflow_add-count : goal.overflow_add-count
overflow_add-count c =
    let draw_below : c.args.station.draw < 2 ^ 64 = omega arith in
    let score_in_start : Score = handed c.args.seq c.args.notes.now c.args.lane.now c.args.out.now c.args.note_buf.now c.args.string.now in
    let fit : leb (score_draws score_in_start) (2 ^ 64 - 1 - c.args.station.draw) ≡ true = sym c.draws_fit.ensures ∙ not-false _ c.if-not-draws_fit.false-raw in
    record { fits = draw_fits _ (score_draws score_in_start) _ draw_below fit (ap (λ (p : Drawn). p.draws) c.play_counted-played.ensures.value) }

pub returns : goal.returns
returns c =
    let draw_below : c.args.station.draw < 2 ^ 64 = omega arith in
    let score_in_start : Score = handed c.args.seq c.args.notes.now c.args.lane.now c.args.out.now c.args.note_buf.now c.args.string.now in
    let v = c.play_counted-played in
    let none = sym c.in_default.is ∙ c.score_verdict.ensures in
    let fit : leb (score_draws score_in_start) (2 ^ 64 - 1 - c.args.station.draw) ≡ true = sym c.draws_fit.ensures ∙ not-false _ c.if-not-draws_fit.false-raw in
    let draws = ap (λ (p : Drawn). p.draws) v.ensures.value in
    let state = ap (λ (p : Drawn). p.rng.0) v.ensures.value in
    accepted_call _ _ none draw_below _ _ fit draws state refl v.ensures.out_after v.ensures.note_buf_unchanged v.ensures.string_unchanged
