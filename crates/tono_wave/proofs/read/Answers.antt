-- `tono_wave::read` meets its contract. Assumes nothing.
use Prim.Native.Nat.{ℕ, ◌^◌, ◌≤◌, ◌<◌}
use mathlib.Core.Path.{◌∙◌}
use native.Mathlib.Omega.{arith}
use mir.Facts.{to_z-of_z}
use mir.Val.{SFits}
use mir.Syntax.{w64}
use lib.ListN.{length}
use Rattle.wave_read.proofs.Ending.{samples_fit}
use Rattle.tono_wave.proofs.Returning.{read_count, read_refused}
use borrow.Author.Rules.{rules}
use Rattle.tono_wave.proofs.read.Goals as goal

-- a slice has fewer than 2^63 values
pub length_as_i64-requires : goal.length_as_i64-requires
length_as_i64-requires c =
    let within_slice : (n : ℕ) → n ≤ length c.args.samples.now → n < 2 ^ 63 = λ n h. omega arith in
    let fits = samples_fit c.read_wave.ensures _ c.in-Ok.is in
    within_slice _ (omega (arith, fits, c.read_wave.auto.samples))

pub returns-in-Ok : goal.returns-in-Ok
returns-in-Ok c =
    let s : SFits w64 c.length_as_i64.result = search rules in
    read_count c.read_wave.ensures _ _ c.in-Ok.is (to_z-of_z s ∙ c.length_as_i64.ensures)

pub returns-in-Err : goal.returns-in-Err
returns-in-Err c =
    let s : SFits w64 c.minus_number.result = search rules in
    read_refused c.read_wave.ensures _ _ c.in-Err.is c.number.ensures (to_z-of_z s ∙ c.minus_number.ensures)
