-- Use where a text is copied to its place, or a place filled with spaces. Assumes nothing.
use Prim.Native.Nat.{ℕ, ◌+◌, ◌-◌}
use mathlib.Core.Path.{◌≡◌, refl, ap, ◌∙◌}
use mathlib.Core.List.{List}
use native.Mathlib.Omega.{arith}
use borrow.Rule.Slice.PartMut.{mid_of, put_mid}
use lib.ListN.{length, drop, length-drop, replicate, length-replicate}
use lib.Seq.{length-take-le, drop-drop}
use Rattle.text_listing.specs.Printed.{put, Room, Printed}

pub copied : (text : List ℕ) (at : ℕ) (out : List ℕ) {w : List ℕ} → w ≡ text → Printed text at out (at + length text) (put_mid at (at + length text - at) out w)
unfolding put
copied text at out e =
    let z : at + (at + length text - at) ≡ at + length text = omega arith in
    record { after = refl; bytes = rw (e, drop-drop (at + length text - at) at out, z) }

pub spaced : (count at : ℕ) (out : List ℕ) {w : List ℕ} → Room (replicate count 32) at out → w ≡ replicate (length (mid_of at (at + count - at) out)) 32
    → Printed (replicate count 32) at out (at + count) (put_mid at (at + count - at) out w)
spaced count at out {w} room e =
    let long : length (replicate {A = ℕ} count 32) ≡ count = length-replicate count 32 in
    let k : at + count - at ≡ count = omega arith in
    let m : length (mid_of at (at + count - at) out) ≡ count = rw k (length-take-le count (drop at out) (omega (arith, length-drop at out, room.fits))) in
    let p = copied (replicate count 32) at out (e ∙ ap (λ (n : ℕ). replicate n 32) m) in
    rw long at p
