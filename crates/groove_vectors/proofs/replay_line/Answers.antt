-- `groove_vectors::replay_line` meets its contract. Assumes nothing.
use Rattle.programs.proofs.Grown.{grows_none, grows_then}
use Rattle.programs.specs.Streams.{Grows}
use Rattle.groove_vectors.proofs.replay_line.Goals as goal
use Rattle.groove_vectors.proofs.replay_line.Goals.{then-is_named+in_ok-replay_groove, else-is_named}
use Rattle.groove_vectors.proofs.replay_line.Goals.{then-is_named-2+in_ok-replay_mapped, else-is_named-2}
use Rattle.groove_vectors.proofs.replay_line.Goals.{then-is_named-3+in_ok-replay_draws, else-is_named-3}

pub returns-in_err-replay_groove : goal.returns-in_err-replay_groove
returns-in_err-replay_groove g c = grows_then _ _ _ c.print_text.ensures.grows c.replay_groove.ensures

pub returns-in_err-replay_mapped : goal.returns-in_err-replay_mapped
returns-in_err-replay_mapped g c =
    let groove : Grows (g.W.Write.contents c.print_text.new.writer) (g.W.Write.contents c.if-is_named.writer) = elim c.if-is_named.branch [
      | then-is_named+in_ok-replay_groove w ↦ rw w.writer-is w.replay_groove.ensures
      | else-is_named w ↦ rw w.writer-is (grows_none _)
    ] in
    let to_groove = grows_then _ _ _ c.print_text.ensures.grows groove in
    grows_then _ _ _ to_groove c.replay_mapped.ensures

pub returns-in_err-replay_draws : goal.returns-in_err-replay_draws
returns-in_err-replay_draws g c =
    let groove : Grows (g.W.Write.contents c.print_text.new.writer) (g.W.Write.contents c.if-is_named.writer) = elim c.if-is_named.branch [
      | then-is_named+in_ok-replay_groove w ↦ rw w.writer-is w.replay_groove.ensures
      | else-is_named w ↦ rw w.writer-is (grows_none _)
    ] in
    let to_groove = grows_then _ _ _ c.print_text.ensures.grows groove in
    let mapped : Grows (g.W.Write.contents c.if-is_named.writer) (g.W.Write.contents c.if-is_named-2.writer) = elim c.if-is_named-2.branch [
      | then-is_named-2+in_ok-replay_mapped w ↦ rw w.writer-is w.replay_mapped.ensures
      | else-is_named-2 w ↦ rw w.writer-is (grows_none _)
    ] in
    let to_mapped = grows_then _ _ _ to_groove mapped in
    grows_then _ _ _ to_mapped c.replay_draws.ensures

pub returns : goal.returns
returns g c =
    let groove : Grows (g.W.Write.contents c.print_text.new.writer) (g.W.Write.contents c.if-is_named.writer) = elim c.if-is_named.branch [
      | then-is_named+in_ok-replay_groove w ↦ rw w.writer-is w.replay_groove.ensures
      | else-is_named w ↦ rw w.writer-is (grows_none _)
    ] in
    let to_groove = grows_then _ _ _ c.print_text.ensures.grows groove in
    let mapped : Grows (g.W.Write.contents c.if-is_named.writer) (g.W.Write.contents c.if-is_named-2.writer) = elim c.if-is_named-2.branch [
      | then-is_named-2+in_ok-replay_mapped w ↦ rw w.writer-is w.replay_mapped.ensures
      | else-is_named-2 w ↦ rw w.writer-is (grows_none _)
    ] in
    let to_mapped = grows_then _ _ _ to_groove mapped in
    let draws : Grows (g.W.Write.contents c.if-is_named-2.writer) (g.W.Write.contents c.if-is_named-3.writer) = elim c.if-is_named-3.branch [
      | then-is_named-3+in_ok-replay_draws w ↦ rw w.writer-is w.replay_draws.ensures
      | else-is_named-3 w ↦ rw w.writer-is (grows_none _)
    ] in
    let to_draws = grows_then _ _ _ to_mapped draws in
    grows_then _ _ _ to_draws c.print_text-2.ensures.grows
