-- `voice_bell::bell_next` meets its contract: each call by what it ensures. Assumes nothing.
use Rattle.voice_bell.specs.Bell.{bell_next}
use borrow.Author.Rules.{rules}
use Rattle.voice_bell.proofs.bell_next.Goals as goal

pub returns : goal.returns
unfolding bell_next
returns c =
    rw (
      c.wrap-6.ensures,
      c.wrap-5.ensures,
      c.wrap-4.ensures,
      c.wrap-3.ensures,
      c.wrap-2.ensures,
      c.wrap.ensures,
    )
