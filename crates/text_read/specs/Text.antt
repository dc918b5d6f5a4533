-- The whole text score.
use Rattle.std.specs.Prelude.{ℕ, ◌≡◌, List, Option, Some, None}
use Rattle.dsl.specs.declared.knobs.Adsr.{Adsr}
use Rattle.score.specs.declared.seq.Seq.{Seq}
use Rattle.text_digits.specs.Read.{Read, got, broken, after}
use Rattle.text_lines.specs.Line.{line_s, line_g, line_e}
use Rattle.text_voice_line.specs.Voice.{line_v}
use Rattle.text_read.specs.Notes.{notes_of, count_of, words_after}
use Rattle.text_lines.specs.declared.Numbers.{Numbers}
use Rattle.text_voice_line.specs.declared.Sound.{Sound}
use Rattle.text_read.specs.declared.text.TextScore.{TextScore}
use Rattle.tempo.specs.Map.{no_map}

-- What a text score says: a score call's numbers with the length n of its output, envelope and voice, the seed and the draw that open its session, and the note words.
pub record Text : Type 0 where
  pub numbers : Numbers
  pub env : Adsr
  pub sound : Sound
  pub seed : ℕ
  pub draw : ℕ
  pub notes : List ℕ

-- what the score call is handed. A text score has no tempo map, and its hop is 1.
abbrev pub seq_of : Numbers → Adsr → Sound → Seq
seq_of a env v =
    record {
      timing = record { rate = a.rate; tempo = a.tempo; steps_per_beat = a.steps_per_beat; tempo_map = no_map; swing = a.swing; humanize = a.humanize };
      hop = 1;
      voice = v.voice;
      duty = v.duty;
      env = env;
    }

abbrev pub seq_in : Text → Seq
seq_in t = seq_of t.numbers t.env t.sound

-- "In order: S .. G .. E .. V .. then N"; nothing follows the notes
unfoldable pub text_of : List ℕ → Read Text
text_of s =
    after (line_s s) (λ a s₁.
    after (line_g s₁) (λ g s₂.
    after (line_e s₂) (λ env s₃.
    after (line_v s₃) (λ v s₄.
    after (notes_of s₄) (λ ws rest. got (record { numbers = a; env = env; sound = v; seed = g.seed; draw = g.draw; notes = ws }) rest)))))

-- what a reader of the text answers
abbrev pub text_score_of : Text → TextScore
text_score_of t = record { numbers = t.numbers; env = t.env; sound = t.sound; seed = t.seed; draw = t.draw; count = count_of t.notes }

abbrev pub parsed_of : Read Text → Option TextScore
parsed_of (got t rest) = Some (text_score_of t)
parsed_of broken = None

abbrev pub notes_read : Read Text → Read (List ℕ)
notes_read (got t rest) = got t.notes rest
notes_read broken = broken

-- The contract of a reader of the text that is lent `notes₀` and leaves `notes`.
pub record Parses (text notes₀ : List ℕ) (parsed : Option TextScore) (notes : List ℕ) : Type 0 where
  pub answer : parsed ≡ parsed_of (text_of text)
  pub words : notes ≡ words_after (notes_read (text_of text)) notes₀
