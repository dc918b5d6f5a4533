-- What does not see a note's gain does not see the word that the gain is read from. Assumes nothing.
use Prim.Native.Nat.{ℕ}
use mathlib.Core.Path.{◌≡◌, refl}
use mathlib.Core.Bool.{Bool, true, false, cond}
use lib.Dec.{eqb}
use lib.Ieee.{Float, binary32, of_bits}
use Rattle.quarter_tone.specs.Lookup.{tone_of}
use Rattle.std.specs.Prelude.{None, Option, Some}
use Rattle.dsl.specs.Note.{note_with, tuned_of, note_of}
use Rattle.dsl.specs.declared.pitch.Pitch.{Pitch}
use Rattle.dsl.specs.declared.pitch.Pitch.TheVariants.{Const, Curve}
use Rattle.dsl.specs.declared.note.SeqNote.{SeqNote}
use Rattle.dsl.specs.declared.note.Untuned.{Untuned}
use Rattle.dsl.specs.declared.note.Decoded.{Decoded}
use Rattle.dsl.specs.declared.note.Decoded.TheVariants.{Note, NoTone, NoKind}

abbrev pub note : ℕ → ℕ → Pitch → Float → SeqNote
note step len p gain = record { step = step; len = len; pitch = p; gain = gain }

abbrev pub untuned : ℕ → ℕ → Float → Untuned
untuned step len gain = record { step = step; len = len; gain = gain }

-- a reading of words that does not see the gain
pub record Free {A : Type 0} (read : Decoded → A) : Type 0 where
  pub notes : (step len : ℕ) (p : Pitch) (gain gain' : Float) → read (Note (note step len p gain)) ≡ read (Note (note step len p gain'))
  pub others : (step len : ℕ) (gain gain' : Float) → read (NoTone (untuned step len gain)) ≡ read (NoTone (untuned step len gain'))

pub word_free : {A : Type 0} (read : Decoded → A) → Free read → (step len kind p g g' : ℕ) → read (note_of step len kind p g) ≡ read (note_of step len kind p g')
unfolding note_of
word_free {A} read free step len kind p g g' = by (eqb kind 0) (eqb kind 1) (eqb kind 2)
  where
    tuned : (t : (Option Float)) → read (tuned_of step len t g) ≡ read (tuned_of step len t g')
    tuned (Some x) = free.notes step len (Const x) _ _
    tuned None = free.others step len _ _

    by : (a b c : Bool) → read (cond a (note_with step len (Const (of_bits binary32 p)) g) (cond b (note_with step len (Curve p) g) (cond c (tuned_of step len (tone_of p) g) NoKind)))
        ≡ read (cond a (note_with step len (Const (of_bits binary32 p)) g') (cond b (note_with step len (Curve p) g') (cond c (tuned_of step len (tone_of p) g') NoKind)))
    by true b c = free.notes step len (Const (of_bits binary32 p)) _ _
    by false true c = free.notes step len (Curve p) _ _
    by false false true = tuned (tone_of p)
    by false false false = refl
