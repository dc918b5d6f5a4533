-- The refusals of a score call, in 01's order. `number_of` (outcome/specs/Answer) has their numbers.
use Rattle.std.specs.Prelude.{ℕ, ◌+◌, ◌-◌, ◌%◌, ◌^◌, ◌<◌, ◌≡◌, List, [], ◌∷◌, ◌++◌, map, true, not, length, ltb, eqb, Float, Ok, Err}
use Rattle.ieee.specs.Numbers.{c0, c1, c1000}
use Rattle.ieee.specs.Order.{within_of}
use Rattle.dsl.specs.Sized.{sized_of, all_sized, pitch_sized}
use Rattle.dsl.specs.Knobs.{knob_list, env_list}
use Rattle.dsl.specs.Note.{of_words}
use Rattle.dsl.specs.Pitch.{passes}
use Rattle.dsl.specs.declared.note.SeqNote.{SeqNote}
use Rattle.dsl.specs.declared.note.Untuned.{Untuned}
use Rattle.dsl.specs.declared.note.Decoded.{Decoded}
use Rattle.tempo.specs.Judge.{in_domain, in_order}
use Rattle.tempo.specs.declared.map.TempoMap.{TempoMap}
use Rattle.outcome.specs.First.{Test, ◌⇒◌, first_of, or_else, first_refusal, outside}
use Rattle.outcome.specs.Domain.{domain_tests}
use Rattle.outcome.specs.declared.answer.Refusal.TheVariants.{Tempo, StepsPerBeat, TempoPoints, TempoOrder, Groove, Knobs, NoteBuffer, StringBuffer, Hop}
use Rattle.outcome.specs.declared.answer.Refusal.TheVariants.{Words, Lane, Kind, Steps, Size, Reach, Tone, Draws}
use Rattle.outcome.specs.Outcome.{Verdict}
use Rattle.score.specs.Score.{Score, note_in, note_count, notes_in, place, score_draws}
use Rattle.score.specs.declared.seq.Seq.{Seq}
use Rattle.score.specs.declared.seq.Timing.{Timing}

-- "31: more than 64 points, a zero denominator, a numerator of magnitude above 1,000,000,000 or a tempo outside 1 to 1,000; 32: a first point not at beat 0 or beats that, as
-- fractions, don't strictly rise". 31 looks at all points before 32 looks at any.
abbrev pub map_tests : TempoMap → List Test
map_tests m = (not (in_domain m) ⇒ TempoPoints) ∷ (not (in_order m) ⇒ TempoOrder) ∷ []

-- "1 rate; 2 n; 3 tempo; 4 steps per beat; 5 swing or humanize: outside the domain"; 31 and 32 "both after 4 and in that order"
abbrev pub number_tests : Timing → ℕ → List Test
number_tests t n =
    domain_tests t.rate n
    ++ (not (within_of t.tempo c1 c1000) ⇒ Tempo)
    ∷ (outside t.steps_per_beat 1 64 ⇒ StepsPerBeat)
    ∷ (map_tests t.tempo_map
    ++ (not (within_of t.swing c0 c1) ⇒ Groove)
    ∷ (not (within_of t.humanize c0 c1) ⇒ Groove)
    ∷ [])

-- "6 a knob of any of the four sets, whether the wave uses it or not, the duty or an envelope number isn't sized", and the drawbars "as knobs are" (`knob_list`)
abbrev pub voice_tests : Seq → List Test
voice_tests q = (not (all_sized (knob_list q.voice)) ⇒ Knobs) ∷ (not (sized_of q.duty) ⇒ Knobs) ∷ (not (all_sized (env_list q.env)) ⇒ Knobs) ∷ []

-- "20 note buffer shorter than n; 21 string buffer shorter than 9,600 values"
abbrev pub lent_tests : Score → List Test
lent_tests s = (ltb s.room s.n ⇒ NoteBuffer) ∷ (ltb s.string 9600 ⇒ StringBuffer) ∷ []

-- "It refuses a hop outside 1 to 4,096 with 35, directly before 7"; "7 note words not a multiple of five; 11 a lane value, used or not, isn't sized"
abbrev pub list_tests : Score → List Test
list_tests s = (outside s.seq.hop 1 4096 ⇒ Hop) ∷ (not (eqb (length s.notes % 5) 0) ⇒ Words) ∷ (not (all_sized s.lane) ⇒ Lane) ∷ []

-- "Tested in this order, 20 and 21 after 6"
abbrev pub call_tests : Score → List Test
call_tests s = number_tests s.seq.timing s.n ++ (voice_tests s.seq ++ (lent_tests s ++ list_tests s))

-- "9 step or len; 10 gain .. not sized", of every kind
abbrev pub word_tests : ℕ → ℕ → Float → List Test
word_tests step len gain = (ltb 1048575 step ⇒ Steps) ∷ (ltb 1048575 len ⇒ Steps) ∷ (not (sized_of gain) ⇒ Size) ∷ []

-- "or constant pitch": a quarter tone is sized
abbrev pub value_tests : SeqNote → List Test
value_tests m = word_tests m.step m.len m.gain ++ (not (pitch_sized m.pitch) ⇒ Size) ∷ []

-- "Refusal 12 now looks at offset + (length − 1) / h, cut, against the lane's last place": the length is module 4's, "for skipped notes too"
abbrev pub note_tests : Score → SeqNote → List Test
note_tests s m = value_tests m ++ (passes m.pitch s.seq.hop (length s.lane) (place s m).len ⇒ Reach) ∷ []

-- "It refuses a q above 255 with 30, in the place of 12 for that note"
abbrev pub untuned_tests : Untuned → List Test
untuned_tests u = word_tests u.step u.len u.gain ++ (true ⇒ Tone) ∷ []

-- "8 now means a kind above 2"
unfoldable pub note_refusal : Score → Decoded → Verdict
note_refusal s = of_words (Err Kind) (λ u. first_of (untuned_tests u)) (λ m. first_of (note_tests s m))

-- "then note by note": all but 22
unfoldable pub refusal : Score → Verdict
refusal s = or_else (first_of (call_tests s)) (first_refusal (map (note_refusal s) (notes_in s)))

-- "22 applies exactly when none before it does and d + D passes 2^64 − 1."
unfoldable pub refusal_at : Score → ℕ → Verdict
refusal_at s d = or_else (refusal s) (first_of ((ltb (2 ^ 64 - 1) (d + score_draws s) ⇒ Draws) ∷ []))

-- every note is one that is not refused
abbrev pub Clean : Score → Type 0
Clean s = (k : ℕ) → k < note_count s → note_refusal s (note_in s k) ≡ Ok tt
