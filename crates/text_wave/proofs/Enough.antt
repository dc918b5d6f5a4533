-- Use where a buffer is to be long enough for every file of a text score: `room_enough`. A file is longest where all 2,048 frames are written. Assumes nothing.
use Prim.Native.Nat.{ℕ, ◌≤◌}
use mathlib.Core.Path.{◌≡◌, refl}
use mathlib.Core.List.{List, map}
use native.Mathlib.Omega.{arith}
use borrow.Author.Tests.{le-ltb}
use lib.Ieee.{Float}
use lib.ListN.{length, length-map}
use Rattle.outcome.specs.Answer.{accepted, unless}
use Rattle.outcome.specs.Outcome.{Verdict}
use Rattle.std.specs.Prelude.{Ok, Err}
use Rattle.score.specs.Score.{note_count, score_draws}
use Rattle.score.specs.Refusals.{refusal_at}
use Rattle.score.specs.declared.seq.Seq.{Seq}
use Rattle.tally.specs.Tally.{tallied, tally}
use Rattle.tally.proofs.Lengths.{taken_length}
use Rattle.text_listing.specs.Lines.{frame_bits}
use Rattle.text_read.specs.Text.{seq_in, text_of}
use Rattle.text_judge.specs.Call.{call_of}
use Rattle.text_judge.specs.Refusal.{text_refusal}
use Rattle.text_judge.proofs.Refused.{unrefused_read}
use Rattle.text_judge.proofs.Unless.{unless_same}
use Rattle.wave_file.specs.Refusal.{refused}
use Rattle.wave_write.specs.Header.{wave_file}
use Rattle.wave_write.specs.Write.{write_result}
use Rattle.wave_write.proofs.Files.{file_length}
use Rattle.text_wave.specs.TextFile.{result_file, played_file, file_read, text_file}

module _ (room : ℕ) (h : 8250 ≤ room) where
  written_enough : (rate : ℕ) (samples : List ℕ) → length samples ≤ 2048 → write_result rate samples room ≡ write_result rate samples 8250
  unfolding write_result
  written_enough rate samples few =
      let a : length (wave_file rate samples) ≤ room = omega (arith, file_length rate samples) in
      let b : length (wave_file rate samples) ≤ 8250 = omega (arith, file_length rate samples) in
      rw (le-ltb _ _ a, le-ltb _ _ b)

  result_enough : (rate : ℕ) (v : Verdict) (D : ℕ) (frames : List Float) → length frames ≤ 2048
      → result_file rate room (unless v (accepted D frames)) ≡ result_file rate 8250 (unless v (accepted D frames))
  result_enough rate (Ok _) D frames few = written_enough rate (map frame_bits frames) (omega (arith, length-map frames frame_bits))
  result_enough rate (Err r) D frames few = refl

  played_enough : (seq : Seq) (notes : List ℕ) (n seed draw : ℕ) → n ≤ 2048 → played_file seq notes n seed draw room ≡ played_file seq notes n seed draw 8250
  unfolding played_file tally tallied
  played_enough seq notes n seed draw few =
      let s = call_of seq notes n in
      let frames = taken_length seed s draw (note_count s) in
      result_enough seq.timing.rate (refusal_at s draw) (score_draws s) _ (omega arith)

  -- With a buffer of 8,250 bytes or more the file of a text score is never refused for want of room.
  pub room_enough : (text : List ℕ) → text_file text room ≡ text_file text 8250
  unfolding text_file
  room_enough text =
      unless_same refused (text_refusal text) (file_read room (text_of text)) (file_read 8250 (text_of text))
      (λ e.
      let u = unrefused_read text e in
      let t = u.said in
      rw u.is (played_enough (seq_in t) t.notes t.numbers.n t.seed t.draw u.frames))
