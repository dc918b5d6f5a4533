-- That no knob moves the noise: what the draws of a score depend on, and lists of calls that differ in knobs, drawbars, duty, gains and envelopes alone.
use Rattle.std.specs.Prelude.{ℕ, ◌+◌, ◌*◌, ◌<◌, ◌≡◌, List, [], ◌∷◌, map, Bool, true, length, get_or, Float, Ok, Err}
use Rattle.std.specs.Float.{nan}
use Rattle.rng.specs.SplitMix64.{state_after}
use Rattle.dsl.specs.Sized.{sized_of}
use Rattle.dsl.specs.Note.{of_words, of_note}
use Rattle.dsl.specs.declared.note.Decoded.{Decoded}
use Rattle.outcome.specs.Answer.{Result, refused, accepted}
use Rattle.outcome.specs.First.{first_of}
use Rattle.outcome.specs.declared.answer.Refusal.{Refusal}
use Rattle.score.specs.Score.{Score, rate_in, wave_in, kit_in, note_in, note_count, place, pitch, note_draws, score_draws}
use Rattle.score.specs.Refusals.{voice_tests, refusal_at}
use Rattle.score_contract.specs.ScoreCall.{Event, score_in}
use Rattle.session.specs.declared.station.Station.{Station}
use Rattle.tally.specs.Claim.{seen_in}
use Rattle.tally.specs.Lists.{draw_of}

-- the sounded frames of five words; of a skipped note there are none
abbrev pub sounded_in : Score → Decoded → ℕ
sounded_in s = of_note 0 (λ m. (place s m).sounded)

-- its first pitch
abbrev pub first_in : Score → Decoded → Float
first_in s = of_note nan (λ m. pitch s m 0)

-- whether its gain is sized; of words of no kind nothing is asked
abbrev pub gain_sized : Decoded → Bool
gain_sized = of_words true (λ u. sized_of u.gain) (λ m. sized_of m.gain)

-- Two scores of one wave and one rate whose notes have the same sounded frames, and the same first pitch where they sound. Everything else is free.
pub record Alike (s s' : Score) : Type 0 where
  pub wave : wave_in s ≡ wave_in s'
  pub kit : kit_in s ≡ kit_in s'
  pub rate : rate_in s ≡ rate_in s'
  pub notes : note_count s ≡ note_count s'
  pub sounded : (k : ℕ) → k < note_count s → sounded_in s (note_in s k) ≡ sounded_in s' (note_in s' k)
  pub first : (k : ℕ) → k < note_count s → 0 < sounded_in s (note_in s k) → first_in s (note_in s k) ≡ first_in s' (note_in s' k)

-- knobs, drawbars, duty, envelope and gains of a score are sized
pub record Sized (s : Score) : Type 0 where
  pub voice : first_of (voice_tests s.seq) ≡ Ok tt
  pub gains : (k : ℕ) → k < note_count s → gain_sized (note_in s k) ≡ true

-- Two scores that differ in nothing but knobs, drawbars, duty, envelope and the notes' gains, all sized in both: of a note's five words the fifth is the gain.
pub record Reset (s s' : Score) : Type 0 where
  pub wave : wave_in s ≡ wave_in s'
  pub kit : kit_in s ≡ kit_in s'
  pub timing : s.seq.timing ≡ s'.seq.timing
  pub hop : s.seq.hop ≡ s'.seq.hop
  pub lane : s.lane ≡ s'.lane
  pub frames : s.n ≡ s'.n
  pub room : s.room ≡ s'.room
  pub string : s.string ≡ s'.string
  pub words : length s.notes ≡ length s'.notes
  pub notes : (k j : ℕ) → k < note_count s → j < 4 → get_or s.notes (k * 5 + j) 0 ≡ get_or s'.notes (k * 5 + j) 0
  pub sized : Sized s
  pub sized' : Sized s'

-- lists of such calls
pub data Resets : List Score → List Score → Type 0 where
  no_calls : Resets [] []
  more_calls : {ss ss' : List Score} (s s' : Score) → Reset s s' → Resets ss ss' → Resets (s ∷ ss) (s' ∷ ss')

-- Note k of two calls that begin at draw d of one seed: it sounds in both or in neither, starts from the same draw and state, and draws the same.
pub record SameNoise (seed d : ℕ) (s s' : Score) (k : ℕ) : Type 0 where
  pub sounded : sounded_in s (note_in s k) ≡ sounded_in s' (note_in s' k)
  pub starts : draw_of s d k ≡ draw_of s' d k
  pub state : state_after seed (draw_of s d k) ≡ state_after seed (draw_of s' d k)
  pub draws : note_draws s (note_in s k) ≡ note_draws s' (note_in s' k)

-- Two lists of calls from draw d on: each call is refused with the same refusal, or accepted in both, with the same noise in each note.
pub data Unmoved (seed : ℕ) : ℕ → List Score → List Score → Type 0 where
  no_more : {d : ℕ} → Unmoved seed d [] []
  both_refused : {d : ℕ} {ss ss' : List Score} (s s' : Score) (why : Refusal) → refusal_at s d ≡ Err why → refusal_at s' d ≡ Err why → Unmoved seed d ss ss'
      → Unmoved seed d (s ∷ ss) (s' ∷ ss')
  both_accepted : {d : ℕ} {ss ss' : List Score} (s s' : Score) → refusal_at s d ≡ Ok tt → refusal_at s' d ≡ Ok tt → note_count s ≡ note_count s'
      → ((k : ℕ) → k < note_count s → SameNoise seed d s s' k) → Unmoved seed (d + score_draws s) ss ss' → Unmoved seed d (s ∷ ss) (s' ∷ ss')

-- a result without its frames: the refusal's number, or the draws
abbrev pub silent : Result → Result
silent (refused number) = refused number
silent (accepted draws frames) = accepted draws []

-- What is claimed of two runs on stations opened alike: the calls, what was seen of them, and the stations at the end.
pub record NoiseKept (seed c : ℕ) (es es' : List Event) (b b' : Station) : Type 0 where
  pub calls : Unmoved seed c (map score_in es) (map score_in es')
  pub answers : map silent (map seen_in es) ≡ map silent (map seen_in es')
  pub ends : b ≡ b'
