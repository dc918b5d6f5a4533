-- `seq::call::render_seq` meets its contract. Assumes nothing.
use mathlib.Core.Path.{◌≡◌, refl, sym, ◌∙◌}
use lib.ListN.{length, length-map}
use Rattle.session.specs.Opened.{Eight}
use Rattle.session.proofs.Naming.{named_one}
use Rattle.score_contract.proofs.Stations.{none_named, put_back}
use borrow.Author.Rules.{rules}
use Rattle.seq.proofs.call.render_seq.Goals as goal

pub returns-in_default : goal.returns-in_default
returns-in_default c =
    let eight : Eight c.args.session =
    let seeds : length c.args.session.seeds ≡ 8 = c.well_formed.0.1.1.0.1.0.1 in
    let counts : length c.args.session.draws ≡ 8 = c.well_formed.0.1.1.1.0.1.0.1 in
    record { seeds = seeds; counts = counts } in
    none_named _ eight _ (sym c.named.ensures ∙ c.in_default.is) c.no_station.ensures refl refl refl

pub answered-requires : goal.answered-requires
answered-requires c =
    (named_one _ _ (sym c.named.ensures ∙ c.in-Some.is)).0

pub returns : goal.returns
returns c =
    let eight : Eight c.args.session =
    let seeds : length c.args.session.seeds ≡ 8 = c.well_formed.0.1.1.0.1.0.1 in
    let counts : length c.args.session.draws ≡ 8 = c.well_formed.0.1.1.1.0.1.0.1 in
    record { seeds = seeds; counts = counts } in
    put_back _ eight _ (sym c.named.ensures ∙ c.in-Some.is) _ c.render_station-answer.ensures c.answered.ensures
