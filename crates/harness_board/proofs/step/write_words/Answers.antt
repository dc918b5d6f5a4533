-- `harness_board::step::write_words` meets its contract. Assumes nothing.
use mathlib.Core.Path.{sym}
use lib.Seq.{length-take-le}
use Rattle.board.proofs.Writes.{long_refused}
use Rattle.harness_board.proofs.step.write_words.Goals as goal

pub returns-then-count-gt8 : goal.returns-then-count-gt8
returns-then-count-gt8 c = sym (long_refused _ _ _ c.if-count-gt8.true)

pub slice_bounds-write_through-end : goal.slice_bounds-write_through-end
slice_bounds-write_through-end c = sym (length-take-le _ _ c.if-count-gt8.false)

pub write_through-requires : goal.write_through-requires
write_through-requires c =
    record {
      words_value = c.requires;
      bytes_len = length-take-le _ _ c.if-count-gt8.false;
    }
