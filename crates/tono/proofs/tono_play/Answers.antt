-- `tono::tono_play` meets its contract. Assumes nothing.
use Prim.Native.Nat.{ℕ, ◌^◌, ◌≤◌, ◌<◌}
use mathlib.Core.Path.{◌∙◌}
use native.Mathlib.Omega.{arith}
use mir.Facts.{to_z-of_z}
use mir.Val.{SFits}
use mir.Syntax.{w64}
use lib.ListN.{length}
use Rattle.text.proofs.Replying.{reply_within}
use Rattle.tono.proofs.Returning.{reply_returned}
use borrow.Author.Rules.{rules}
use Rattle.tono.proofs.tono_play.Goals as goal

-- a slice has fewer than 2^63 bytes
pub reply_as_i64-requires : goal.reply_as_i64-requires
reply_as_i64-requires c =
    let within_slice : (n : ℕ) → n ≤ length c.args.reply.now → n < 2 ^ 63 = λ n h. omega arith in
    within_slice _ (reply_within c.play_text-said.ensures)

pub returns : goal.returns
returns c =
    let s : SFits w64 c.reply_as_i64.result = search rules in
    reply_returned c.play_text-said.ensures (to_z-of_z s ∙ c.reply_as_i64.ensures)
