-- `wave_read::walk::find_data` meets its contract. Assumes nothing.
use native.Mathlib.Omega.{arith}
use borrow.Author.Rules.{rules}
use mathlib.Core.Path.{◌≡◌, refl, ap, ◌∙◌}
use Rattle.std.specs.Prelude.{Ok, Err}
use Rattle.wave_read.proofs.Walking.{fault_here, data_fits, data_here, next_fits, next_here, walk_end}
use Rattle.wave_read.proofs.walk.find_data.Goals as goal

pub loop-at-init : goal.loop-at-init
loop-at-init c = refl

pub returns-in_err-after : goal.returns-in_err-after
returns-in_err-after c =
    let fault : c.from_residual.result ≡ Err c.in_err-after.field-0.0 = search rules in
    rw fault (fault_here _ _ c.chunk_at.ensures _ c.in_err-after.was c.loop-at.invariant)

pub data_chunk-requires : goal.data_chunk-requires
data_chunk-requires c = data_fits _ _ c.chunk_at.ensures (c.in_ok-after.was ∙ ap Ok c.in_default.is)

pub returns-in_default : goal.returns-in_default
returns-in_default c = data_here _ _ c.chunk_at.ensures (c.in_ok-after.was ∙ ap Ok c.in_default.is) c.data_chunk.ensures c.loop-at.invariant

pub chunk_end-at-requires : goal.chunk_end-at-requires
chunk_end-at-requires c = next_fits _ _ c.chunk_at.ensures _ (c.in_ok-after.was ∙ ap Ok c.in-Some.is)

pub loop-at-smaller : goal.loop-at-smaller
loop-at-smaller c = omega (arith, c.chunk_end-at.ensures)

pub loop-at-preserved : goal.loop-at-preserved
loop-at-preserved c =
    next_here _ _ c.chunk_at.ensures _ (c.in_ok-after.was ∙ ap Ok c.in-Some.is) c.chunk_end-at.ensures c.loop-at.invariant

pub returns : goal.returns
returns c = walk_end _ _ _ c.loop-at-test.false c.loop-at.invariant
