-- `tono_wave::write` meets its contract. Assumes nothing.
use Prim.Native.Nat.{ℕ, ◌^◌, ◌≤◌, ◌<◌}
use mathlib.Core.Path.{◌∙◌}
use native.Mathlib.Omega.{arith}
use mir.Facts.{to_z-of_z}
use mir.Val.{SFits}
use mir.Syntax.{w64}
use lib.ListN.{length}
use Rattle.tono_wave.proofs.Returning.{bytes_fit, write_length, write_refused}
use borrow.Author.Rules.{rules}
use Rattle.tono_wave.proofs.write.Goals as goal

-- a slice has fewer than 2^63 values
pub length_as_i64-requires : goal.length_as_i64-requires
length_as_i64-requires c =
    let within_slice : (n : ℕ) → n ≤ length c.args.file.now → n < 2 ^ 63 = λ n h. omega arith in
    let fits = bytes_fit c.write_wave.ensures _ c.in-Ok.is in
    within_slice _ (omega (arith, fits, c.write_wave.auto.file))

pub returns-in-Ok : goal.returns-in-Ok
returns-in-Ok c =
    let s : SFits w64 c.length_as_i64.result = search rules in
    write_length c.write_wave.ensures _ c.in-Ok.is (to_z-of_z s ∙ c.length_as_i64.ensures)

pub returns-in-Err : goal.returns-in-Err
returns-in-Err c =
    let s : SFits w64 c.minus_number.result = search rules in
    write_refused c.write_wave.ensures _ c.in-Err.is c.number.ensures (to_z-of_z s ∙ c.minus_number.ensures)
