-- `raw_plan::planned_draws` meets its contract. Assumes nothing.
use Rattle.std.specs.Prelude.{Some}
use mathlib.Core.Path.{◌≡◌, refl, sym, ◌∙◌}
use lib.ListN.{length}
use Rattle.dsl.specs.declared.knobs.Adsr.{Adsr}
use Rattle.dsl.specs.declared.knobs.SeqVoice.{SeqVoice}
use Rattle.raw_knobs.specs.Knobs.{voice_at, env_at}
use Rattle.raw_call.specs.Raw.{whole_of, parts_with}
use Rattle.raw_call.proofs.Whole.{call_eights}
use Rattle.raw_plan.proofs.PlanEnds.{not_planned, plan_holds}
use borrow.Author.Rules.{rules}
use Rattle.raw_plan.proofs.planned_draws.Goals as goal

pub returns-in_default : goal.returns-in_default
returns-in_default c = not_planned _ (sym c.in_default.is ∙ c.parts_at.ensures) refl refl

pub session_of-session-requires : goal.session_of-session-requires
session_of-session-requires c =
    let eights : (v : SeqVoice) (m : Adsr) →
    Some (v, m) ≡ parts_with (voice_at c.args.wave c.args.style c.args.knobs.now c.args.bars.now) (env_at c.args.env.now)
    (whole_of (length c.args.seeds.now) (length c.args.counts.now) (length c.args.points.now)) →
    (length c.args.seeds.now ≡ 8) × (length c.args.counts.now ≡ 8) =
    λ v m is. call_eights (length c.args.seeds.now) (length c.args.counts.now) (length c.args.points.now)
    (voice_at c.args.wave c.args.style c.args.knobs.now c.args.bars.now) (env_at c.args.env.now) v m is in
    (let whole = eights _ _ (sym c.in-Some.is ∙ c.parts_at.ensures) in record { seeds_len = whole.0; counts_len = whole.1 })

pub returns : goal.returns
returns c =
    let is = sym c.in-Some.is ∙ c.parts_at.ensures in
    let planned = rw (c.seq_of-seq.ensures, c.session_of-session.ensures) at c.planned_draws-answer.ensures in
    plan_holds _ _ _ _ is planned c.number_of.ensures c.draws_of.ensures
