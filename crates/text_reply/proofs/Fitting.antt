-- Use for a text that is printed to a reply where it fits. Assumes nothing.
use Prim.Native.Nat.{ℕ, ◌≤◌, ◌<◌}
use mathlib.Core.Path.{◌≡◌, refl, ap, ◌∙◌}
use mathlib.Core.List.{List}
use mathlib.Core.Bool.{Bool, true, false, cond}
use native.Mathlib.Omega.{arith}
use native.Mathlib.Nat.{zero-add}
use borrow.Author.Tests.{lt-ltb, le-ltb, ltb-false}
use lib.Dec.{ltb}
use lib.ListN.{length}
use Rattle.laws.proofs.If.{if_true, if_false}
use Rattle.text_listing.specs.Printed.{Room, Printed}
use Rattle.text_listing.proofs.Put.{printed_whole}
use Rattle.text_reply.specs.Reply.{Fitted, length_in}
use Rattle.std.specs.Prelude.{None, Option, Some}

-- a text l of n bytes does not fit, or it does and is printed
module _ {l reply₀ : List ℕ} {n : ℕ} (size : n ≡ length l) where
  pub fitted_short : length reply₀ < n → Fitted l reply₀ None reply₀
  fitted_short h = let t = lt-ltb _ _ (rw size at h) in record { answer = if_true _ t refl; bytes = if_true _ t refl }

  module _ (h : n ≤ length reply₀) where
    pub fitted_room : Room l 0 reply₀
    fitted_room = record { fits = omega arith }

    pub fitted_whole : {m : ℕ} {reply : List ℕ} → Printed l 0 reply₀ m reply → Fitted l reply₀ (Some m) reply
    fitted_whole {m} p =
        let t = le-ltb _ _ (rw size at h) in
        let all : m ≡ length l = p.after ∙ zero-add (length l) in
        record { answer = if_false _ t (ap Some all); bytes = if_false _ t (rw all at (printed_whole p)) }

pub fitted_as : {s t reply₀ reply : List ℕ} {said : Option ℕ} → s ≡ t → Fitted s reply₀ said reply → Fitted t reply₀ said reply
fitted_as e h = rw e at h

-- what a reply says is no longer than the reply itself
said_within : (b : Bool) (room n : ℕ) → (b ≡ false → n ≤ room) → length_in (cond b None (Some n)) ≤ room
said_within true room n h = omega arith
said_within false room n h = h refl

pub length_within : {l reply₀ reply : List ℕ} {said : Option ℕ} → Fitted l reply₀ said reply → length_in said ≤ length reply₀
length_within {l} {reply₀} h =
    rw h.answer (said_within (ltb (length reply₀) (length l)) (length reply₀) (length l) (ltb-false (length reply₀) (length l)))
