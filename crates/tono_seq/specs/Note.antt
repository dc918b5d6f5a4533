-- A note call from numbers and lists: the note call's own definition.
use Rattle.std.specs.Prelude.{ℕ, ◌≡◌, List, length, Float, None, Option, Some}
use Rattle.dsl.specs.declared.knobs.SeqVoice.{SeqVoice}
use Rattle.note_verdict.specs.NoteRefusals.{NoteHanded}
use Rattle.note.specs.NoteCall.{note_result_of}
use Rattle.raw_knobs.specs.Knobs.{voice_at}
use Rattle.raw_call.specs.Called.{Called, none, made, state_after_call, Places, Holds}

-- What was handed in, and what was lent and answered. `state` is the generator's.
pub record NoteExport : Type 0 where
  pub rate : ℕ
  pub wave : ℕ
  pub style : ℕ
  pub knobs : List Float
  pub bars : List Float
  pub gain : Float
  pub pitch : List Float
  pub duty : List Float
  pub state₀ : ℕ
  pub state : ℕ
  pub places : Places

-- what the note call is handed with the voice v
abbrev pub handed_with : SeqVoice → NoteExport → NoteHanded
handed_with v e = record {
  rate = e.rate;
  voice = v;
  gain = e.gain;
  pitch = e.pitch;
  duty = e.duty;
  n = length e.places.out₀;
  string = length e.places.string₀;
}

abbrev pub note_called_with : Option SeqVoice → NoteExport → Called
note_called_with (Some v) e = made (note_result_of (handed_with v e) e.state₀)
note_called_with None e = none

abbrev pub note_called : NoteExport → Called
note_called e = note_called_with (voice_at e.wave e.style e.knobs e.bars) e

-- The contract: all is as in the note call of that voice.
pub record NoteExported (e : NoteExport) : Type 0 where
  pub places : Holds (note_called e) e.places
  pub state : e.state ≡ state_after_call e.state₀ (note_called e)
