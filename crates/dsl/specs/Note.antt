-- "A note is five u32 words: step, len, kind (0 number, 1 curve), f32 bits or offset, gain bits." "Kind 2 of a note means q, looked up in a fixed table of 256 frequencies".
use Rattle.std.specs.Prelude.{ℕ, cond, eqb, Float, None, Option, Some}
use Rattle.std.specs.Float.{binary32}
use Rattle.std.specs.Float.Ieee.{of_bits}
use Rattle.quarter_tone.specs.Lookup.{tone_of}
use Rattle.dsl.specs.declared.pitch.Pitch.{Pitch}
use Rattle.dsl.specs.declared.pitch.Pitch.TheVariants.{Const, Curve}
use Rattle.dsl.specs.declared.note.SeqNote.{SeqNote}
use Rattle.dsl.specs.declared.note.Untuned.{Untuned}
use Rattle.dsl.specs.declared.note.Decoded.{Decoded}
use Rattle.dsl.specs.declared.note.Decoded.TheVariants.{Note, NoTone, NoKind}

abbrev pub note_with : ℕ → ℕ → Pitch → ℕ → Decoded
note_with step len pitch gain = Note (record { step = step; len = len; pitch = pitch; gain = of_bits binary32 gain })

-- a looked-up quarter tone is the number that was found, so that nothing but this sees q
abbrev pub tuned_of : ℕ → ℕ → Option Float → ℕ → Decoded
tuned_of step len (Some x) gain = note_with step len (Const x) gain
tuned_of step len None gain = NoTone (record { step = step; len = len; gain = of_bits binary32 gain })

unfoldable pub note_of : ℕ → ℕ → ℕ → ℕ → ℕ → Decoded
note_of step len kind pitch gain =
    cond (eqb kind 0) (note_with step len (Const (of_bits binary32 pitch)) gain)
    (cond (eqb kind 1) (note_with step len (Curve pitch) gain) (cond (eqb kind 2) (tuned_of step len (tone_of pitch) gain) NoKind))

-- What is made of five words: `f` of a note, `untuned` of one without its quarter tone, and `other` of words of no kind. Every definition goes through this one or the
-- next, so that a new kind is a case here alone.
abbrev pub of_words : {A : Type 0} → A → (Untuned → A) → (SeqNote → A) → Decoded → A
of_words other untuned f (Note m) = f m
of_words other untuned f (NoTone u) = untuned u
of_words other untuned f NoKind = other

-- the same where only a note counts
abbrev pub of_note : {A : Type 0} → A → (SeqNote → A) → Decoded → A
of_note other f = of_words other (λ u. other) f
