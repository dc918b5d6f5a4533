-- Five words are a note, or none. Use in place of cases on `Decoded`: `by_kind` where only a note counts, `by_words` else. Assumes nothing.
use mathlib.Core.Path.{◌≡◌, refl}
use Rattle.dsl.specs.Note.{of_note}
use Rattle.dsl.specs.declared.note.SeqNote.{SeqNote}
use Rattle.dsl.specs.declared.note.Untuned.{Untuned}
use Rattle.dsl.specs.declared.note.Decoded.{Decoded}
use Rattle.dsl.specs.declared.note.Decoded.TheVariants.{Note, NoTone, NoKind}

-- words that are no note: whatever is made of a note, they are the other
pub record NoNote (e : Decoded) : Type 1 where
  pub other : {A : Type 0} (o : A) (f : SeqNote → A) → of_note o f e ≡ o

pub by_words : (P : Decoded → Type 0) → ((m : SeqNote) → P (Note m)) → ((u : Untuned) → P (NoTone u)) → P NoKind → (e : Decoded) → P e
by_words P note untuned none (Note m) = note m
by_words P note untuned none (NoTone u) = untuned u
by_words P note untuned none NoKind = none

pub by_kind : (P : Decoded → Type 0) → ((m : SeqNote) → P (Note m)) → ((e : Decoded) → NoNote e → P e) → (e : Decoded) → P e
by_kind P note none = by_words P note (λ u. none (NoTone u) (record { other = λ o f. refl })) (none NoKind (record { other = λ o f. refl }))

-- what code knows where a `let .. else` finds no note: which of the other variants it is stays open
pub no_note_left : (e : Decoded) → ((m : SeqNote) → e ≡ Note m → ⊥) → NoNote e
no_note_left (Note m) t = absurd (t m refl)
no_note_left (NoTone u) t = record { other = λ o f. refl }
no_note_left NoKind t = record { other = λ o f. refl }
