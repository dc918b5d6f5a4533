-- Demand 3 of the score calls that hosts make: lists of `tono_render_seq`, with the seeds and the counts that the host keeps.
use Rattle.std.specs.Prelude.{ℕ, ◌+◌, ◌<◌, ◌≡◌, List, [], ◌∷◌, ◌++◌, map, cond, eqb, get_or, Some, None}
use Rattle.outcome.specs.Answer.{Result, refused, accepted}
use Rattle.dsl.specs.declared.knobs.Adsr.{Adsr}
use Rattle.dsl.specs.declared.knobs.SeqVoice.{SeqVoice}
use Rattle.score.specs.Score.{Score}
use Rattle.raw_call.specs.Raw.{Parts, seq_with, parts_in}
use Rattle.tono_seq.specs.Score.{ScoreExport, score_with, ScoreExported}
use Rattle.tally.specs.Tally.{tally, total, drawn_by}

-- A list of calls, accepted or refused, over any stations, from the counts c to the counts d. Each call gets the seeds, and the counts as the last one left them, and nothing else
-- writes them.
pub data RunsExported (seeds : List ℕ) : List ℕ → List ScoreExport → List ℕ → Type 0 where
  no_export : {c : List ℕ} → RunsExported seeds c [] c
  next_export : {c d : List ℕ} {es : List ScoreExport} (e : ScoreExport) → e.raw.seeds ≡ seeds → e.raw.counts ≡ c → ScoreExported e → RunsExported seeds e.counts es d
      → RunsExported seeds c (e ∷ es) d

-- what a host sees of a call: 0 says that it is accepted
abbrev pub seen_of : ScoreExport → Result
seen_of e = cond (eqb e.places.number 0) (accepted e.places.draws e.places.out) (refused e.places.number)

-- a score call: what it was handed, and what was seen of it
pub record Made : Type 0 where
  pub score : Score
  pub seen : Result

abbrev pub score_made : Made → Score
score_made m = m.score

abbrev pub seen_made : Made → Result
seen_made m = m.seen

-- a call whose numbers stand for no voice, no envelope or no session makes no score call (4294967295)
abbrev pub made_on : Parts → ScoreExport → List Made → List Made
made_on (Some (v, a)) e rest = record { score = score_with (seq_with v a e.raw) e; seen = seen_of e } ∷ rest
made_on None e rest = rest

-- the score calls of a list that name station k, in their order
unfoldable pub own_made : ℕ → List ScoreExport → List Made
own_made k [] = []
own_made k (e ∷ es) = cond (eqb e.station k) (made_on (parts_in e.raw) e (own_made k es)) (own_made k es)

-- The claim, of the seed s and the count c of each station: the calls that name it answer what 01's tally says of them, it ends at draw c + T, and what they reported adds up to T; a
-- score call that names no station is refused with 33. The next call plays from the seed's state at the count, so that the generator stands at s + (c + T) × G mod 2^64.
pub record ExportsAgree (seeds c : List ℕ) (es : List ScoreExport) (d : List ℕ) : Type 0 where
  pub results : (k : ℕ) → k < 8 → map seen_made (own_made k es) ≡ (tally (get_or seeds k 0) (get_or c k 0) (map score_made (own_made k es))).results
  pub ends : (k : ℕ) → k < 8 → get_or d k 0 ≡ get_or c k 0 + drawn_by (get_or seeds k 0) (get_or c k 0) (map score_made (own_made k es))
  pub reports : (k : ℕ) → k < 8 → total (map seen_made (own_made k es)) ≡ drawn_by (get_or seeds k 0) (get_or c k 0) (map score_made (own_made k es))
  pub nowhere : (es₁ : List ScoreExport) (e : ScoreExport) (es₂ : List ScoreExport) → es ≡ es₁ ++ e ∷ es₂ → 7 < e.station
      → (v : SeqVoice) (a : Adsr) → parts_in e.raw ≡ Some (v, a) → seen_of e ≡ refused 33
