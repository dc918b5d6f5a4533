-- `tono_text::plan` meets its contract. Assumes nothing.
use mathlib.Core.Path.{refl, ◌∙◌}
use mir.Facts.{to_z-of_z}
use mir.Val.{SFits}
use mir.Syntax.{w64}
use Rattle.tono_text.proofs.Plans.{total_returned, number_returned}
use borrow.Author.Rules.{rules}
use Rattle.tono_text.proofs.plan.Goals as goal

pub returns-in-Ok : goal.returns-in-Ok
returns-in-Ok c = total_returned c.plan_text.ensures c.in-Ok.is refl refl

pub returns-in-Err : goal.returns-in-Err
returns-in-Err c =
    let s : SFits w64 c.minus_number.result = search rules in
    number_returned c.plan_text.ensures c.in-Err.is (to_z-of_z s ∙ c.minus_number.ensures) refl
