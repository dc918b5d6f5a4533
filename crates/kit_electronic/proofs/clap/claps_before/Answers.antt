-- `kit_electronic::clap::claps_before` meets its contract: the exponentials of the arguments are the levels. Assumes nothing.
use mathlib.Core.Path.{ap, ◌∙◌}
use native.Mathlib.Omega.{arith}
use borrow.Author.Rules.{rules}
use Rattle.blocks.proofs.Block.{tabled_from}
use Rattle.dsp.specs.Kernels.{exp_of}
use Rattle.osc.specs.Phase.{seconds}
use Rattle.kit_electronic.specs.Drums.{claps_of}
use Rattle.kit_electronic.specs.Block.{clap_argument}
use Rattle.kit_electronic.proofs.ByLevel.{clap_exp}
use Rattle.kit_electronic.proofs.clap.claps_before.Goals as goal

pub returns : goal.returns
returns c =
    let p = c.args in
    let x = c.at_times.ensures.tabled (λ i. clap_argument (seconds p.srf i)) (λ i y ge lt q. search rules) in
    let made = c.exps_before.ensures in (
      made.0,
      tabled_from (λ i. claps_of (seconds p.srf i)) p.from p.end made.1 (omega arith) (λ k h m. ap exp_of (x.at k h m) ∙ clap_exp (seconds p.srf k)),
    )
