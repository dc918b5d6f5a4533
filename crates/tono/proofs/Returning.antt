-- The text call's answer as a C number. Assumes nothing.
use Prim.Native.Nat.{ℕ}
use mathlib.Core.Path.{◌≡◌, ap, ◌∙◌}
use mathlib.Core.List.{List}
use lib.IntN.{ℤ}
use Rattle.text_reply.specs.Reply.{return_of}
use Rattle.std.specs.Prelude.{Option}
use Rattle.text.specs.Reply.{Replied}
use Rattle.tono.specs.Answered.{Answered}

pub reply_returned : {score reply₀ reply : List ℕ} {said : Option ℕ} {z : ℤ} → Replied score reply₀ said reply → z ≡ return_of said → Answered score reply₀ z reply
reply_returned h e = record { answer = e ∙ ap return_of h.answer; bytes = h.bytes }
