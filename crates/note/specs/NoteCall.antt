-- A note call: its answer, and what it leaves.
use Rattle.std.specs.Prelude.{ℕ, ◌≡◌, List, length, drop, get_or, Float}
use Rattle.std.specs.Float.{nan}
use Rattle.rng.specs.SplitMix64.{state_after}
use Rattle.rng.specs.declared.Rng.{Rng}
use Rattle.draws.specs.Draws.{draws_of}
use Rattle.voice.specs.Voice.{note_frames}
use Rattle.dsl.specs.declared.knobs.SeqVoice.{SeqVoice}
use Rattle.outcome.specs.Answer.{Result, refused, accepted, unless, seen, out_after, free}
use Rattle.note_verdict.specs.NoteRefusals.{NoteHanded, note_call_refusal}
use Rattle.note.specs.declared.answer.NoteAnswer.{NoteAnswer}

-- "An accepted note call reports e, demand 3's draws with every frame of its output sounded", from the generator's state g
unfoldable pub note_result_of : NoteHanded → ℕ → Result
note_result_of h g =
    unless (note_call_refusal h)
    (accepted (draws_of h.voice.wave h.voice.kit h.rate (get_or h.pitch 0 nan) h.n)
    (note_frames h.rate h.voice h.gain (λ i. get_or h.pitch i nan) (λ i. get_or h.duty i nan) g h.n))

-- What a call was handed and lent, what it answered, and what the lent buffers then hold.
pub record NoteEvent : Type 0 where
  pub rng : Rng
  pub rate : ℕ
  pub voice : SeqVoice
  pub gain : Float
  pub pitch : List Float
  pub duty : List Float
  pub out₀ : List Float
  pub string₀ : List Float
  pub answer : NoteAnswer
  pub out : List Float
  pub string : List Float

abbrev pub note_handed_in : NoteEvent → NoteHanded
note_handed_in e = record {
  rate = e.rate;
  voice = e.voice;
  gain = e.gain;
  pitch = e.pitch;
  duty = e.duty;
  n = length e.out₀;
  string = length e.string₀;
}

abbrev pub note_result_in : NoteEvent → Result
note_result_in e = note_result_of (note_handed_in e) e.rng.0

-- "and hands back its state + e × G modulo 2^64"; a refused call hands back its state
abbrev pub rng_after : Rng → Result → Rng
rng_after g (refused number) = g
rng_after g (accepted draws frames) = record { 0 = state_after g.0 draws }

-- The contract of a note call. "Free are only .. after an accepted call .. the string buffer's first 9,600 values; the others .. stay".
pub record Voiced (e : NoteEvent) : Type 0 where
  pub answer : seen e.answer.outcome e.out ≡ note_result_in e
  pub rng : e.answer.rng ≡ rng_after e.rng (note_result_in e)
  pub frames : e.out ≡ out_after e.out₀ (note_result_in e)
  pub string : drop (free 9600 (note_result_in e)) e.string ≡ drop (free 9600 (note_result_in e)) e.string₀
