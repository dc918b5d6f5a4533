-- `text_reply::reply::reply_as_i64` meets its contract. Assumes nothing.
use Prim.Native.Nat.{◌^◌, ◌<◌}
use mathlib.Core.Path.{sym, ap, ◌∙◌}
use native.Mathlib.Omega.{arith}
use mir.Facts.{to_z-of_z}
use mir.Val.{SFits}
use mir.Syntax.{w64}
use Rattle.text_reply.specs.Reply.{return_of}
use borrow.Author.Rules.{rules}
use Rattle.text_reply.proofs.reply.reply_as_i64.Goals as goal

pub length_as_i64-requires : goal.length_as_i64-requires
length_as_i64-requires c =
    let h : c.in-Some.length < 2 ^ 63 = rw c.in-Some.is at c.requires in
    omega (arith, h)

pub returns-in-Some : goal.returns-in-Some
returns-in-Some c =
    let s : SFits w64 c.length_as_i64.result = search rules in
    to_z-of_z s ∙ c.length_as_i64.ensures ∙ ap return_of (sym c.in-Some.is)

pub returns-in-None : goal.returns-in-None
returns-in-None c = ap return_of (sym c.in-None.is)
