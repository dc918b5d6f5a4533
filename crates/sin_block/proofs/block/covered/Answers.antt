-- `sin_block::block::covered` meets its contract. Assumes nothing.
use mathlib.Core.Bool.{false≢true}
use borrow.Author.Tests.{eqb-true}
use Rattle.sin_block.proofs.Composed.{sine_composed}
use borrow.Author.Rules.{rules}
use Rattle.sin_block.proofs.block.covered.Goals as goal

pub returns-then-turns-ne0 : goal.returns-then-turns-ne0
returns-then-turns-ne0 c =
    let p = c.requires in
    record {
      near_len = (c.turns.ensures.near_len, p.2, p.3, p.4);
      tabled = λ e. absurd (false≢true e);
    }

pub returns-then-quarters-ne0 : goal.returns-then-quarters-ne0
returns-then-quarters-ne0 c =
    let p = c.requires in
    record {
      near_len = (c.turns.ensures.near_len, c.quarters.ensures.q_len, p.3, p.4);
      tabled = λ e. absurd (false≢true e);
    }

pub returns : goal.returns
returns c =
    record {
      near_len = (c.turns.ensures.near_len, c.quarters.ensures.q_len, c.sines.ensures.out_len, c.narrowed.ensures.out_len);
      tabled = λ e.
          sine_composed _ _ c.quarters.new.q _ _ _ (c.turns.ensures.tabled c.if-turns-ne0.false) (c.quarters.ensures.nan_after c.if-quarters-ne0.false) c.sines.ensures.tabled
          (c.narrowed.ensures.tabled (eqb-true _ _ e));
    }
