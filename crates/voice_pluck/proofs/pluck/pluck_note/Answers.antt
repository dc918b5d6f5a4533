-- `voice_pluck::pluck::pluck_note` meets its contract: the period of the first pitch fits the string. Assumes nothing.
use Rattle.std.proofs.Common.{ℕ, ◌<◌, ◌≤◌, length, sym, subst, le_trans, lit≤, rules}
use Rattle.dsl.proofs.Reach.{reaches_less}
use Rattle.counts.proofs.Periods.{period_least, period_fits}
use Rattle.voice_pluck.proofs.pluck.pluck_note.Goals as goal

pub at-requires : goal.at-requires
at-requires c = reaches_less c.args.pitch _ _ _ c.requires.reaches c.requires.out_nonzero

pub sound_string-requires : goal.sound_string-requires
sound_string-requires c =
    let is = sym c.string_period-period.ensures in
    let rate = c.args.rate in
    let first = c.at.result in
    let fits = le_trans (period_fits rate c.requires.rate first) c.requires.in_bounds in
    record {
      period_nonzero = subst (λ (n : ℕ). 0 < n) is (le_trans (lit≤ tt) (period_least rate first));
      period_in_bounds = subst (λ (n : ℕ). n ≤ length c.args.string.now) is fits;
      frames = c.requires.frames;
    }

pub returns : goal.returns
returns c =
    let first = c.at.ensures in
    let is = c.string_period-period.ensures in
    let srf = c.nearest_u32_to_f32-srf.ensures in
    record {
      out_after = rw (is, first, srf) at c.sound_string.ensures.out_after;
      string_after = rw (is, first, srf) at c.sound_string.ensures.string_after;
      result_value = rw (is, first) at c.sound_string.ensures.result_value;
    }
