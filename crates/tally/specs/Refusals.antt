-- The refusals of a score call and of a note call by their numbers, each in one list, in the order in which they are tested.
use Rattle.std.specs.Prelude.{ℕ, ◌+◌, ◌-◌, ◌*◌, ◌/◌, ◌%◌, ◌^◌, Bool, not, cond, ◌&&◌, length, get_or, ltb, eqb}
use mathlib.Core.List.{List, [], ◌∷◌, ◌++◌, flatten}
use Rattle.std.specs.Float.{binary32}
use Rattle.std.specs.Float.Ieee.{of_bits}
use Rattle.laws.specs.Listed.{listed}
use Rattle.ieee.specs.Numbers.{c0, c1, c1000}
use Rattle.ieee.specs.Order.{within_of}
use Rattle.dsl.specs.Sized.{sized_of, all_sized}
use Rattle.dsl.specs.Knobs.{knob_list, env_list}
use Rattle.dsl.specs.declared.note.SeqNote.{SeqNote}
use Rattle.dsl.specs.declared.pitch.Pitch.TheVariants.{Curve}
use Rattle.tempo.specs.Judge.{in_domain, in_order}
use Rattle.outcome.specs.Answer.{Result, refused}
use Rattle.outcome.specs.First.{outside}
use Rattle.note_verdict.specs.NoteRefusals.{NoteHanded}
use Rattle.score.specs.Score.{Score, note_count, place, score_draws}

-- a test, and the number that refuses a call where it holds
pub record Numbered : Type 0 where
  pub holds : Bool
  pub number : ℕ

infix 20 ◌⇒#◌
abbrev pub ◌⇒#◌ : Bool → ℕ → Numbered
test ⇒# number = record { holds = test; number = number }

-- "the first refusal that applies gives the number"; r where none does
unfoldable pub first_refused : List Numbered → Result → Result
first_refused [] r = r
first_refused (t ∷ ts) r = cond t.holds (refused t.number) (first_refused ts r)

-- The refusals of one note of a score, by its five words: "8 kind above 1; 9 step or len; 10 gain or constant pitch not sized; 12 offset + length (module 4's, for skipped notes
-- too) passes the lane's end"; "8 now means a kind above 2"; 12 "now looks at offset + (length − 1) / h, cut, against the lane's last place"; "a q above 255 with 30, in the place
-- of 12 for that note".
module _ (s : Score) (step len kind word gain : ℕ) where
  -- the note that the words of a curve are, `word` being its offset
  abbrev pub curve_note : SeqNote
  curve_note = record { step = step; len = len; pitch = Curve word; gain = of_bits binary32 gain }

  unfoldable pub note_refusals : List Numbered
  note_refusals =
      (ltb 2 kind ⇒# 8)
      ∷ (ltb 1048575 step ⇒# 9)
      ∷ (ltb 1048575 len ⇒# 9)
      ∷ (not (sized_of (of_bits binary32 gain)) ⇒# 10)
      ∷ (eqb kind 0 && not (sized_of (of_bits binary32 word)) ⇒# 10)
      ∷ (eqb kind 1 && not (ltb (word + ((place s curve_note).len - 1) / s.seq.hop) (length s.lane)) ⇒# 12)
      ∷ (eqb kind 2 && ltb 255 word ⇒# 30)
      ∷ []

-- those of note k
unfoldable pub refusals_at : Score → ℕ → List Numbered
refusals_at s k =
    note_refusals s (get_or s.notes (k * 5) 0) (get_or s.notes (k * 5 + 1) 0) (get_or s.notes (k * 5 + 2) 0) (get_or s.notes (k * 5 + 3) 0) (get_or s.notes (k * 5 + 4) 0)

-- The refusals of a score call that names the station k, whose count is d: "a station above 7 with 33, before 1"; "Tested in this order, 20 and 21 after 6"; 31 and 32 "both after 4
-- and in that order"; 35 "directly before 7"; "then note by note"; 22 "tested last".
unfoldable pub score_refusals : ℕ → ℕ → Score → List Numbered
score_refusals k d s =
    let t = s.seq.timing in
    (ltb 7 k ⇒# 33)
    ∷ (outside t.rate 8000 192000 ⇒# 1)
    ∷ (ltb 16777216 s.n ⇒# 2)
    ∷ (not (within_of t.tempo c1 c1000) ⇒# 3)
    ∷ (outside t.steps_per_beat 1 64 ⇒# 4)
    ∷ (not (in_domain t.tempo_map) ⇒# 31)
    ∷ (not (in_order t.tempo_map) ⇒# 32)
    ∷ (not (within_of t.swing c0 c1) ⇒# 5)
    ∷ (not (within_of t.humanize c0 c1) ⇒# 5)
    ∷ (not (all_sized (knob_list s.seq.voice)) ⇒# 6)
    ∷ (not (sized_of s.seq.duty) ⇒# 6)
    ∷ (not (all_sized (env_list s.seq.env)) ⇒# 6)
    ∷ (ltb s.room s.n ⇒# 20)
    ∷ (ltb s.string 9600 ⇒# 21)
    ∷ (outside s.seq.hop 1 4096 ⇒# 35)
    ∷ (not (eqb (length s.notes % 5) 0) ⇒# 7)
    ∷ (not (all_sized s.lane) ⇒# 11)
    ∷ (flatten (listed (refusals_at s) (note_count s))
    ++ (ltb (2 ^ 64 - 1) (d + score_draws s) ⇒# 22)
    ∷ [])

-- The refusals of a note call, "in the order 1, 2, 6, 21, 10, 13, 14".
unfoldable pub note_call_refusals : NoteHanded → List Numbered
note_call_refusals h =
    (outside h.rate 8000 192000 ⇒# 1)
    ∷ (ltb 16777216 h.n ⇒# 2)
    ∷ (not (all_sized (knob_list h.voice)) ⇒# 6)
    ∷ (ltb h.string 9600 ⇒# 21)
    ∷ (not (sized_of h.gain) ⇒# 10)
    ∷ (not (all_sized h.pitch) ⇒# 10)
    ∷ (not (all_sized h.duty) ⇒# 10)
    ∷ (eqb (length h.pitch) 0 ⇒# 13)
    ∷ (not (eqb (length h.duty) (length h.pitch)) ⇒# 14)
    ∷ (not (eqb h.n (length h.pitch)) ⇒# 14)
    ∷ []
