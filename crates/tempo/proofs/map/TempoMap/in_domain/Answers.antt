-- `tempo::map::TempoMap::in_domain` meets its contract. Assumes nothing.
use Rattle.std.proofs.Common.{refl, arith, rules, le-ltb, lt-ltb}
use Rattle.laws.proofs.If.{if_true, if_false}
use Rattle.tempo.specs.Judge.{in_domain}
use Rattle.tempo.proofs.map.TempoMap.in_domain.Goals as goal

pub returns-then-self-gt64 : goal.returns-then-self-gt64
unfolding in_domain
returns-then-self-gt64 c = if_true _ (lt-ltb _ _ c.if-self-gt64.true) refl

pub returns : goal.returns
unfolding in_domain
returns c = if_false _ (le-ltb 64 c.args.self.count (omega arith)) c.all_fine.ensures
