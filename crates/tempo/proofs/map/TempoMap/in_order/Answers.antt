-- `tempo::map::TempoMap::in_order` meets its contract. Assumes nothing.
use Rattle.std.proofs.Common.{sym, refl, ◌∙◌, rules}
use borrow.Author.Tests.{not-true, not-false}
use Rattle.laws.proofs.If.{if_true, if_false}
use Rattle.tempo.specs.Judge.{in_order}
use Rattle.tempo.proofs.Judging.{domain_fine}
use Rattle.tempo.proofs.map.TempoMap.in_order.Goals as goal

pub returns-then-not-begins_at_zero : goal.returns-then-not-begins_at_zero
unfolding in_order
returns-then-not-begins_at_zero c = if_false _ (sym c.begins_at_zero.ensures ∙ not-true _ c.if-not-begins_at_zero.true-raw) refl

pub rises-requires : goal.rises-requires
rises-requires c = domain_fine _ c.requires

pub returns : goal.returns
unfolding in_order
returns c = if_true _ (sym c.begins_at_zero.ensures ∙ not-false _ c.if-not-begins_at_zero.false-raw) c.rises.ensures
