-- Spaces and a text: a right-aligned column. Assumes nothing.
use Prim.Native.Nat.{ℕ, ◌-◌}
use mathlib.Core.Path.{◌≡◌}
use mathlib.Core.List.{List}
use lib.ListN.{length}
use Rattle.text_listing.specs.Printed.{Room, Printed}
use Rattle.text_listing.proofs.Put.{room_first, room_next, printed_both}
use Rattle.cue_line.specs.Columns.{spaces, right}

module _ (width : ℕ) {n w : ℕ} (text : List ℕ) {at : ℕ} {out : List ℕ} (long : n ≡ length text) (before : w ≡ width - n) (h : Room (right width text) at out) where
  pub spaces_room : Room (spaces w) at out
  spaces_room = rw (before, long) (room_first (spaces (width - length text)) text h)

  module _ {next : ℕ} {out₁ : List ℕ} (p : Printed (spaces w) at out next out₁) where
    same : Printed (spaces (width - length text)) at out next out₁
    same = rw (before, long) at p

    pub text_room : Room text next out₁
    text_room = room_next (spaces (width - length text)) text h same

    pub printed_right : {m : ℕ} {out₂ : List ℕ} → Printed text next out₁ m out₂ → Printed (right width text) at out m out₂
    printed_right = printed_both (spaces (width - length text)) text h same
