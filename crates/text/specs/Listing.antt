-- The listing of a text score: "A text score past 15 and 16 gives what a list of its one score call gives, from the session that its G line opens."
use Rattle.std.specs.Prelude.{ℕ, List, [], ◌∷◌}
use Rattle.rng.specs.SplitMix64.{state_after}
use Rattle.outcome.specs.Answer.{Result}
use Rattle.score.specs.declared.seq.Seq.{Seq}
use Rattle.tally.specs.Tally.{Tally, tally}
use Rattle.text_digits.specs.Read.{Read, got, broken}
use Rattle.text_read.specs.Text.{Text, seq_in, text_of}
use Rattle.text_judge.specs.Call.{call_of}
use Rattle.text_judge.specs.Refusal.{text_refusal, unless_refused}
use Rattle.text_listing.specs.Lines.{printed_r}
use Rattle.text_reply.specs.Shown.{shown_at}

-- of a list of one call
abbrev pub shown_one : ℕ → ℕ → List Result → List ℕ
shown_one seed end [] = []
shown_one seed end (r ∷ rs) = shown_at (state_after seed end) end r

abbrev pub shown : ℕ → Tally → List ℕ
shown seed t = shown_one seed t.end t.results

-- what the one call gives, from the session opened with the seed at the draw
unfoldable pub played : Seq → List ℕ → ℕ → ℕ → ℕ → List ℕ
played seq notes n seed draw = shown seed (tally seed draw (call_of seq notes n ∷ []))

-- the one score call of what was read; nothing of a broken text, whose refusal is never 0 (the law `unrefused_read` of text_judge)
abbrev pub played_read : Read Text → List ℕ
played_read broken = []
played_read (got t rest) = played (seq_in t) t.notes t.numbers.n t.seed t.draw

-- "A refused score prints one line alone": that of the number, unless it is 0
unfoldable pub listing : List ℕ → List ℕ
listing text = unless_refused printed_r (text_refusal text) (played_read (text_of text))
