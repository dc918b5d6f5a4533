-- `score_draws::score_draws` meets its contract. Assumes nothing.
use Prim.Native.Nat.{◌-◌, ◌/◌}
use mathlib.Core.Path.{◌≡◌, refl}
use native.Mathlib.Omega.{arith}
use lib.ListN.{length}
use Rattle.score.specs.Score.{score_of}
use Rattle.score_draws.proofs.Adding.{Added, added_none, added_over, added_more, added_all}
use borrow.Author.Rules.{rules}
use Rattle.score_draws.proofs.score_draws.Goals as goal

pub loop-k-init : goal.loop-k-init
loop-k-init c = (added_none, refl)

pub note_draws-e-requires : goal.note_draws-e-requires
note_draws-e-requires c =
    record {
      lent_value = c.requires;
      k_in_bounds = omega arith;
    }

pub overflow_sub-left : goal.overflow_sub-left
overflow_sub-left c = c.loop-k.invariant.0.fits

pub returns-then-e-left : goal.returns-then-e-left
returns-then-e-left c = added_over c.loop-k.invariant.0 (omega arith) c.note_draws-e.ensures c.if-e-left.true

pub overflow_add-total : goal.overflow_add-total
overflow_add-total c = let h = c.loop-k.invariant.0.fits in record { fits = omega arith }

pub loop-k-preserved : goal.loop-k-preserved
loop-k-preserved c = (added_more c.loop-k.invariant.0 (omega arith) c.note_draws-e.ensures c.if-e-left.false, refl)

pub returns : goal.returns
returns c = added_all c.loop-k.invariant.0 (omega arith)
