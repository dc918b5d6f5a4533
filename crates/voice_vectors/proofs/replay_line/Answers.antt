-- `voice_vectors::replay_line` meets its contract. Assumes nothing.
use Rattle.programs.proofs.Grown.{grows_none, grows_then}
use Rattle.programs.specs.Streams.{Grows}
use Rattle.voice_vectors.proofs.replay_line.Goals as goal
use Rattle.voice_vectors.proofs.replay_line.Goals.{then-frames-le128+then-count-gt0+then-count-le128+in_ok-play, else-frames-le128}

pub returns-in_err-play : goal.returns-in_err-play
returns-in_err-play g c = grows_then _ _ _ c.print_text.ensures.grows c.play.ensures

pub returns : goal.returns
returns g c =
    let played : Grows (g.W.Write.contents c.print_text.new.writer) (g.W.Write.contents c.if-frames-le128.writer) = elim c.if-frames-le128.branch [
      | then-frames-le128+then-count-gt0+then-count-le128+in_ok-play w ↦ rw w.writer-is w.play.ensures
      | else-frames-le128 w ↦ rw w.writer-is (grows_none _)
    ] in
    let to_played = grows_then _ _ _ c.print_text.ensures.grows played in
    grows_then _ _ _ to_played c.print_text-2.ensures.grows
