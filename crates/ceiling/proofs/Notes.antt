-- The notes of the named score: m times the same. Assumes nothing.
use Prim.Native.Nat.{ℕ, zero, suc, ◌+◌, ◌*◌, ◌<◌}
use mathlib.Core.Path.{◌≡◌, refl, ap, ◌∙◌}
use mathlib.Core.List.{◌++◌}
use native.Mathlib.Omega.{arith}
use lib.ListN.{length, get_or}
use lib.Ieee.{binary32, of_bits}
use Rattle.ieee.specs.Numbers.{c20}
use Rattle.dsl.specs.Note.{note_of}
use Rattle.dsl.specs.declared.pitch.Pitch.TheVariants.{Const}
use Rattle.dsl.specs.declared.note.SeqNote.{SeqNote}
use Rattle.dsl.specs.declared.note.Decoded.TheVariants.{Note}
use Rattle.score.specs.Score.{note_at}
use Rattle.ceiling.specs.Ceiling.{held_note, held_notes}

abbrev pub held : SeqNote
held = record { step = 0; len = 1048575; pitch = Const c20; gain = of_bits binary32 0x3f800000 }

pub held_length : (m : ℕ) → length (held_notes m) ≡ m * 5
unfolding held_notes
held_length zero = refl
held_length (suc m) = omega (arith, held_length m)

-- word i of note k
word_at : (m k i : ℕ) → k < m → i < 5 → get_or (held_notes m) (k * 5 + i) 0 ≡ get_or held_note i 0
unfolding held_notes
word_at zero k i h l = absurd (omega arith)
word_at (suc m) zero zero h l = refl
word_at (suc m) zero (suc zero) h l = refl
word_at (suc m) zero (suc (suc zero)) h l = refl
word_at (suc m) zero (suc (suc (suc zero))) h l = refl
word_at (suc m) zero (suc (suc (suc (suc zero)))) h l = refl
word_at (suc m) zero (suc (suc (suc (suc (suc i))))) h l = absurd (omega arith)
word_at (suc m) (suc k) i h l =
    let z : suc k * 5 + i ≡ suc (suc (suc (suc (suc (k * 5 + i))))) = omega arith in
    ap (λ (j : ℕ). get_or (held_note ++ held_notes m) j 0) z ∙ word_at m k i (omega arith) l

pub held_at : (m k : ℕ) → k < m → note_at (held_notes m) k ≡ Note held
unfolding note_at note_of
held_at m k h =
    let z : k * 5 ≡ k * 5 + 0 = omega arith in
    let step = ap (λ (j : ℕ). get_or (held_notes m) j 0) z ∙ word_at m k 0 h (omega arith) in
    λ j. note_of (step j) (word_at m k 1 h (omega arith) j) (word_at m k 2 h (omega arith) j) (word_at m k 3 h (omega arith) j) (word_at m k 4 h (omega arith) j)
