-- Which file a text score has: of its one call by the theorem about lists of calls, and of a text that was judged. Assumes nothing.
use Prim.Native.Nat.{ℕ, ◌*◌}
use mathlib.Core.Path.{◌≡◌, sym, ap, ◌∙◌}
use mathlib.Core.List.{List, [], ◌∷◌}
use lib.ListN.{length, take}
use Rattle.score.specs.Score.{Score}
use Rattle.score_contract.specs.ScoreCall.{score_in}
use Rattle.score_contract.specs.SessionCall.{SessionEvent, SessionScored, on_station}
use Rattle.score_contract.proofs.Stations.{first_station}
use Rattle.session.specs.Opened.{session_at}
use Rattle.score.specs.declared.seq.Seq.{Seq}
use Rattle.session.specs.declared.session.Session.{Session}
use Rattle.tally.specs.Tally.{tally}
use Rattle.tally.specs.Claim.{none, call, seen_in}
use Rattle.tally.proofs.AllCalls.{all_calls}
use Rattle.text_read.specs.Text.{seq_of, text_of}
use Rattle.text_read.specs.declared.text.TextScore.{TextScore}
use Rattle.text_judge.specs.Call.{call_of}
use Rattle.text_judge.specs.Judged.{Judges}
use Rattle.std.specs.Prelude.{Result, Err, Ok}
use Rattle.text_judge.proofs.Past.{Past, judged_refused}
use Rattle.wave_file.specs.Refusal.{FileResult, refused, part_of, number_of}
use Rattle.wave_file.specs.declared.refusal.FileRefusal.{FileRefusal}
use Rattle.wave_write.specs.Write.{write_result, written_in, file_after, Wrote}
use Rattle.text_wave.specs.TextFile.{result_file, one_file, played_file, file_read, text_file, Filed}

-- ---- what was written
module _ {rate : ℕ} {samples file₀ file : List ℕ} {said : Result ℕ FileRefusal} (w : Wrote rate samples file₀ said file) where
  pub filed_bytes : (n : ℕ) → said ≡ Ok n → Filed (write_result rate samples (length file₀)) file₀ (Ok n) file
  filed_bytes n e = record { answer = ap written_in (sym e) ∙ w.answer; bytes = w.bytes }

  pub filed_refusal : (r : FileRefusal) → said ≡ Err r → {k : ℕ} → k ≡ number_of r → Filed (write_result rate samples (length file₀)) file₀ (Err k) file
  filed_refusal r e i = record { answer = ap refused i ∙ ap written_in (sym e) ∙ w.answer; bytes = w.bytes }

pub filed_none : {file₀ : List ℕ} (number : ℕ) {result : FileResult (List ℕ)} → refused number ≡ result → Filed result file₀ (Err number) file₀
filed_none {file₀} number e = record { answer = ap (part_of length) e; bytes = ap (file_after file₀) e }

pub filed_as : {r s : FileResult (List ℕ)} {file₀ file : List ℕ} {said : Result ℕ ℕ} → r ≡ s → Filed r file₀ said file → Filed s file₀ said file
filed_as e f = rw e at f

-- ---- the one call
pub played_by : (seq : Seq) (notes : List ℕ) (n seed draw room : ℕ) (a : Session) (e : SessionEvent) → a ≡ session_at seed draw → e.station ≡ 0 → SessionScored a e
    → score_in (on_station e) ≡ call_of seq notes n → result_file seq.timing.rate room (seen_in (on_station e)) ≡ played_file seq notes n seed draw room
unfolding played_file
played_by seq notes n seed draw room a e opened first scored is =
    let rate = seq.timing.rate in
    let one = on_station e in
    let all = all_calls seed draw (one ∷ []) one.answer.station (call one (first_station seed draw a e opened first scored) none) in
    ap (one_file rate room) all.results ∙ ap (λ (s : Score). one_file rate room (tally seed draw (s ∷ [])).results) is

-- ---- which file a text has that was judged
pub file_refused : {text words₀ words : List ℕ} {r : Result TextScore ℕ} (room : ℕ) (h : Judges text words₀ r words) {n : ℕ} → r ≡ Err n → refused n ≡ text_file text room
unfolding text_file
file_refused {text} room h is = judged_refused h refused (file_read room (text_of text)) is

pub file_played : {text : List ℕ} {x : TextScore} {words : List ℕ} (room : ℕ) (p : Past text x words)
    → played_file (seq_of x.numbers x.env x.sound) (take (x.count * 5) words) x.numbers.n x.seed x.draw room ≡ text_file text room
unfolding text_file
file_played room p =
    rw (p.none, p.is) (λ j.
    let y = p.score j in
    played_file (seq_of y.numbers y.env y.sound) (p.notes j) y.numbers.n y.seed y.draw room)
