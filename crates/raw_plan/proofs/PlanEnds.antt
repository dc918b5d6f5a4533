-- The ways in which `planned_draws` ends. Assumes nothing.
use Rattle.std.specs.Prelude.{Some, None}
use mathlib.Core.Path.{◌≡◌, sym, ap, ◌∙◌}
use mathlib.Core.List.{[]}
use Rattle.dsl.specs.declared.knobs.Adsr.{Adsr}
use Rattle.dsl.specs.declared.knobs.SeqVoice.{SeqVoice}
use Rattle.outcome.specs.Answer.{seen, number_of_result, reported}
use Rattle.outcome.specs.Outcome.{Outcome}
use Rattle.plan.specs.Plan.{Planned}
use Rattle.plan.specs.declared.call.Plan.{Plan}
use Rattle.raw_call.specs.Called.{none, made, number_of_call, draws_after_call}
use Rattle.raw_call.specs.Raw.{Parts, session_in, seq_with, parts_in}
use Rattle.raw_plan.specs.Plan.{PlanExport, PlanExported, planned_with, plan_called_on, plan_called}

module _ (e : PlanExport) where
  pub not_planned : None ≡ parts_in e.raw → e.number ≡ 4294967295 → e.draws ≡ e.draws₀ → PlanExported e
  not_planned u n d = let q : plan_called e ≡ none = ap (λ (x : Parts). plan_called_on x e) (sym u) in record { number = rw q n; draws = rw q d }

  pub plan_holds : (v : SeqVoice) (a : Adsr) (p : Plan) → Some (v, a) ≡ parts_in e.raw → Planned (session_in e.raw) e.station (planned_with (seq_with v a e.raw) e) p
      → e.number ≡ number_of_result (seen p.outcome []) → e.draws ≡ reported (seen p.outcome []) → PlanExported e
  plan_holds v a p is planned n d =
      let to : plan_called e ≡ made (seen p.outcome []) =
      ap (λ (x : Parts). plan_called_on x e) (sym is) ∙ ap (λ (o : Outcome). made (seen o [])) (sym planned.outcome)
      in
      record { number = n ∙ ap number_of_call (sym to); draws = d ∙ ap (draws_after_call e.draws₀) (sym to) }
