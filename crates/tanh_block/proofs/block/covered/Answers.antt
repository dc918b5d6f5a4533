-- `tanh_block::block::covered` meets its contract. Assumes nothing.
use mathlib.Core.Bool.{false≢true}
use borrow.Author.Tests.{eqb-true}
use Rattle.tanh_block.proofs.Tangent.{tangent_composed}
use borrow.Author.Rules.{rules}
use Rattle.tanh_block.proofs.block.covered.Goals as goal

pub returns-then-outsiders-ne0 : goal.returns-then-outsiders-ne0
returns-then-outsiders-ne0 c =
    let p = c.requires in
    record {
      e_len = (p.1, p.2, p.3);
      tabled = λ e. absurd (false≢true e);
    }

pub exps-requires : goal.exps-requires
exps-requires c =
    let p = c.requires in
    record {
      n_bound = (p.0, p.1);
      by_index = c.outsiders.ensures c.if-outsiders-ne0.false;
    }

pub tangents-requires : goal.tangents-requires
tangents-requires c =
    let p = c.requires in
    record {
      n_bound = (p.0, p.2);
      by_index = c.outsiders.ensures c.if-outsiders-ne0.false;
    }

pub returns : goal.returns
returns c =
    record {
      e_len = (c.exps.ensures.e_len, c.tangents.ensures.out_len, c.narrowed.ensures.out_len);
      tabled = λ e. tangent_composed _ _ _ _ _ (c.outsiders.ensures c.if-outsiders-ne0.false) c.exps.ensures.tabled c.tangents.ensures.tabled (c.narrowed.ensures.tabled (eqb-true _ _ e));
    }
