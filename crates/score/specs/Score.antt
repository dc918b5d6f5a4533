-- What a score call is handed, as values, and what 01 makes of it: where each note stands, and its draws.
use Rattle.std.specs.Prelude.{ℕ, zero, suc, ◌+◌, ◌*◌, ◌/◌, List, [], ◌∷◌, map, Bool, cond, length, get_or, eqb, Float}
use Rattle.laws.specs.Listed.{listed}
use Rattle.dsl.specs.Note.{note_of, of_note}
use Rattle.dsl.specs.Pitch.{reading, pitch_at}
use Rattle.dsl.specs.declared.kit.KitStyle.{KitStyle}
use Rattle.dsl.specs.declared.wave.SeqWave.{SeqWave}
use Rattle.dsl.specs.declared.note.SeqNote.{SeqNote}
use Rattle.dsl.specs.declared.note.Decoded.{Decoded}
use Rattle.groove.specs.Timing.{step_dur_of, groove_of}
use Rattle.groove.specs.Length.{length_of, skipped, sounded_of}
use Rattle.groove.specs.Mapped.{mapped_of, mapped_length}
use Rattle.tempo.specs.Map.{points}
use Rattle.draws.specs.Draws.{draws_of}
use Rattle.score.specs.declared.seq.Seq.{Seq}
use Rattle.score.specs.declared.seq.Timing.{Timing}
use Rattle.score.specs.declared.seq.Lent.{Lent}
use Rattle.score.specs.declared.place.Place.{Place}

-- "each score call's numbers, voice, note words and lane, as values, and the lengths of its lent buffers": n is the output's, `room` the note buffer's, `string` the string
-- buffer's
pub record Score : Type 0 where
  pub seq : Seq
  pub notes : List ℕ
  pub lane : List Float
  pub n : ℕ
  pub room : ℕ
  pub string : ℕ

abbrev pub score_of : Seq → List ℕ → List Float → Lent → Score
score_of seq notes lane lent = record { seq = seq; notes = notes; lane = lane; n = lent.n; room = lent.room; string = lent.string }

-- the same from the lent buffers themselves
abbrev pub handed : Seq → List ℕ → List Float → List Float → List Float → List Float → Score
handed seq notes lane out buffer string = score_of seq notes lane (record { n = length out; room = length buffer; string = length string })

module _ (s : Score) where
  abbrev pub rate_in : ℕ
  rate_in = s.seq.timing.rate

  abbrev pub wave_in : SeqWave
  wave_in = s.seq.voice.wave

  -- the drum kit's style, which no other wave looks at
  abbrev pub kit_in : KitStyle
  kit_in = s.seq.voice.kit

-- "A note is five u32 words: step, len, kind .., f32 bits or offset, gain bits"
unfoldable pub note_at : List ℕ → ℕ → Decoded
note_at words k = note_of (get_or words (k * 5) 0) (get_or words (k * 5 + 1) 0) (get_or words (k * 5 + 2) 0) (get_or words (k * 5 + 3) 0) (get_or words (k * 5 + 4) 0)

-- how many notes there are
abbrev pub note_count : Score → ℕ
note_count s = length s.notes / 5

abbrev pub note_in : Score → ℕ → Decoded
note_in s k = note_at s.notes k

-- the notes, as a list
abbrev pub notes_in : Score → List Decoded
notes_in s = listed (note_in s) (note_count s)

-- samples per step
abbrev pub dur_of : Timing → Float
dur_of t = step_dur_of t.rate t.tempo t.steps_per_beat

abbrev pub standing : ℕ → ℕ → ℕ → Float → Place
standing n start len gain = record { start = start; len = len; sounded = sounded_of n start len; gain = gain }

-- module 4: at the straight tempo
unfoldable pub straight_place : Timing → ℕ → SeqNote → Place
straight_place t n m =
    let g = groove_of m t.swing t.humanize (dur_of t) in
    standing n g.start (length_of m.len (dur_of t) n) g.gain

-- Card 2: as `render_seq_mapped` plays it
unfoldable pub mapped_place : Timing → ℕ → SeqNote → Place
mapped_place t n m =
    let g = mapped_of m t.swing t.humanize (points t.tempo_map) t.steps_per_beat t.rate in
    standing n g.start (mapped_length g.start g.end n) g.gain

-- Where a note stands among n frames: "with no points .. the straight tempo plays". Nothing else looks at the timing.
unfoldable pub place_of : Timing → ℕ → SeqNote → Place
place_of t n m = cond (eqb (length (points t.tempo_map)) 0) (straight_place t n m) (mapped_place t n m)

module _ (s : Score) (m : SeqNote) where
  abbrev pub place : Place
  place = place_of s.seq.timing s.n m

  -- "A note with start ≥ n is skipped"
  abbrev pub skips : Bool
  skips = skipped s.n place.start

  -- the note's pitch, by frame: "All voices take their pitch through that reading."
  abbrev pub pitch : ℕ → Float
  pitch = pitch_at (reading m.pitch s.seq.hop) s.lane

  -- e: demand 3's draws of a sounded note; "A skipped note leaves x"
  unfoldable pub draws_in : ℕ
  draws_in = cond skips 0 (draws_of (wave_in s) (kit_in s) (rate_in s) (pitch 0) place.sounded)

-- the same of five words; those of no kind are refused with 8, and never played
unfoldable pub note_draws : Score → Decoded → ℕ
note_draws s = of_note 0 (draws_in s)

unfoldable pub sum : List ℕ → ℕ
sum [] = 0
sum (x ∷ xs) = x + sum xs

-- "D is the sum of demand 3's draws over the call's own sounded notes."
unfoldable pub score_draws : Score → ℕ
score_draws s = sum (map (note_draws s) (notes_in s))

-- the draws of the first k notes
unfoldable pub draws_before : Score → ℕ → ℕ
draws_before s zero = 0
draws_before s (suc k) = draws_before s k + note_draws s (note_in s k)
