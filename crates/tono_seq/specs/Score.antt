-- A score call from numbers and lists: the score call's own definition.
use Rattle.std.specs.Prelude.{ℕ, ◌≡◌, List, length, drop, Float, Some, None}
use Rattle.score.specs.Score.{Score, handed}
use Rattle.score.specs.declared.seq.Seq.{Seq}
use Rattle.score_contract.specs.SessionCall.{result_at, session_after}
use Rattle.session.specs.declared.session.Session.{Session}
use Rattle.raw_call.specs.Called.{Called, none, made, free_after_call, Places, Holds}
use Rattle.raw_call.specs.Raw.{Parts, Raw, session_in, seq_with, parts_in}

-- What was handed in, and what was lent and answered; `counts` are the stations' draw counts after the call, and `buffer` is the note buffer.
pub record ScoreExport : Type 0 where
  pub raw : Raw
  pub station : ℕ
  pub notes : List ℕ
  pub lane : List Float
  pub counts : List ℕ
  pub buffer₀ : List Float
  pub buffer : List Float
  pub places : Places

-- what the score call is handed with the `Seq` q
abbrev pub score_with : Seq → ScoreExport → Score
score_with q e = handed q e.notes e.lane e.places.out₀ e.buffer₀ e.places.string₀

abbrev pub score_called_on : Parts → ScoreExport → Called
score_called_on (Some (v, a)) e = made (result_at (session_in e.raw) e.station (score_with (seq_with v a e.raw) e))
score_called_on None e = none

abbrev pub score_called : ScoreExport → Called
score_called e = score_called_on (parts_in e.raw) e

-- what the counts' places hold after a call on station k of the session a
abbrev pub counts_after_call : Session → ℕ → Called → List ℕ
counts_after_call a k none = a.draws
counts_after_call a k (made r) = (session_after a k r).draws

-- The contract: all is as in the score call of that session and `Seq`. The note buffer's first n values are free after an accepted call.
pub record ScoreExported (e : ScoreExport) : Type 0 where
  pub places : Holds (score_called e) e.places
  pub counts : e.counts ≡ counts_after_call (session_in e.raw) e.station (score_called e)
  pub buffer : drop (free_after_call (length e.places.out₀) (score_called e)) e.buffer ≡ drop (free_after_call (length e.places.out₀) (score_called e)) e.buffer₀
