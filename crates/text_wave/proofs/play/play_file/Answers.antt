-- `text_wave::play::play_file` meets its contract. Assumes nothing.
use Prim.Native.Nat.{◌≤◌}
use mathlib.Core.Path.{◌≡◌, refl, sym, ap, ◌∙◌}
use mathlib.Core.List.{[]}
use native.Mathlib.Omega.{arith}
use lib.ListN.{length, drop, length-append}
use lib.Seq.{length-take-le, take_at}
use Rattle.text_wave.proofs.Filing.{filed_as, played_by}
use Rattle.text_wave.proofs.play.play_file.Goals as goal

pub slice_bounds-frames-end : goal.slice_bounds-frames-end
slice_bounds-frames-end c =
    let a = c.args in
    let l = c.frames_buffer-frames.result in
    let fits : a.score.numbers.n ≤ length l = omega (arith, c.frames_buffer-frames.ensures, c.requires) in
    fits

pub slice_bounds-out-end : goal.slice_bounds-out-end
slice_bounds-out-end c =
    let a = c.args in
    let l = c.frames_buffer-frames.result in
    let fits : a.score.numbers.n ≤ length l = omega (arith, c.frames_buffer-frames.ensures, c.requires) in
    sym (length-take-le a.score.numbers.n l fits)

pub slice_bounds-frames-end-2 : goal.slice_bounds-frames-end-2
slice_bounds-frames-end-2 c =
    let a = c.args in
    let l = c.frames_buffer-frames.result in
    let fits : a.score.numbers.n ≤ length l = omega (arith, c.frames_buffer-frames.ensures, c.requires) in
    let v = c.render_seq-answer in
    let len : length v.new.out ≡ a.score.numbers.n = v.auto.out ∙ length-take-le a.score.numbers.n l fits in
    omega (arith, len, length-append v.new.out (drop a.score.numbers.n l))

pub slice_bounds-write_answer-end : goal.slice_bounds-write_answer-end
slice_bounds-write_answer-end c =
    let a = c.args in
    let l = c.frames_buffer-frames.result in
    let fits : a.score.numbers.n ≤ length l = omega (arith, c.frames_buffer-frames.ensures, c.requires) in
    let v = c.render_seq-answer in
    let len : length v.new.out ≡ a.score.numbers.n = v.auto.out ∙ length-take-le a.score.numbers.n l fits in
    sym (ap length (take_at v.new.out (drop a.score.numbers.n l) a.score.numbers.n len) ∙ len)

pub write_answer-requires : goal.write_answer-requires
write_answer-requires c =
    let a = c.args in
    let l = c.frames_buffer-frames.result in
    let fits : a.score.numbers.n ≤ length l = omega (arith, c.frames_buffer-frames.ensures, c.requires) in
    let v = c.render_seq-answer in
    let len : length v.new.out ≡ a.score.numbers.n = v.auto.out ∙ length-take-le a.score.numbers.n l fits in
    let e = ap length (take_at v.new.out (drop a.score.numbers.n l) a.score.numbers.n len) ∙ len in
    omega (arith, e, c.requires)

pub returns : goal.returns
returns c =
    let a = c.args in
    let l = c.frames_buffer-frames.result in
    let fits : a.score.numbers.n ≤ length l = omega (arith, c.frames_buffer-frames.ensures, c.requires) in
    let v = c.render_seq-answer in
    let len : length v.new.out ≡ a.score.numbers.n = v.auto.out ∙ length-take-le a.score.numbers.n l fits in
    let heard = take_at v.new.out (drop a.score.numbers.n l) a.score.numbers.n len in
    let filed = rw heard at c.write_answer.ensures in
    let room = sym c.frames_buffer-note_buf.ensures in
    let string = sym c.string_buffer-string.ensures in
    let n = length-take-le a.score.numbers.n l fits in
    let opened = c.open-session.ensures in
    rw c.seq-seq.ensures at
    (filed_as
    (played_by c.seq-seq.result a.notes.now a.score.numbers.n a.score.seed a.score.draw _ _ _ opened refl v.ensures
    (λ j. record { seq = c.seq-seq.result; notes = a.notes.now; lane = []; n = n j; room = room j; string = string j }))
    filed)
