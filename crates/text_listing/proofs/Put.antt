-- Use in each printer: one byte, nothing, and one text after another (`room_first`, `room_next`, `printed_both`), also where the whole has a name of its own
-- (`first_room`, `rest_room`, `printed_parts`). `three` and `four` are a line of so many parts,
-- of which part k has room once the parts before it stand. Assumes nothing.
use Prim.Native.Nat.{ℕ, ◌+◌, ◌≤◌, ◌<◌}
use mathlib.Core.Path.{◌≡◌, refl, sym, ap, ◌∙◌}
use mathlib.Core.List.{List, [], ◌∷◌, ◌++◌, append_assoc}
use native.Mathlib.Omega.{arith}
use native.Mathlib.Nat.{zero-add}
use native.Mathlib.Numerals.{add-one}
use lib.ListN.{length, take, drop, set, length-append, length-drop, take-append-drop}
use lib.Seq.{set_split, take_at, drop-append-add, drop-drop, length-take-le}
use Rattle.text_listing.specs.Printed.{put, Room, Printed}

pub printed_one : (b at : ℕ) (out : List ℕ) → Room (b ∷ []) at out → Printed (b ∷ []) at out (at + 1) (set out at b)
unfolding put
printed_one b at out h = let l : at < length out = omega arith in record { after = refl; bytes = rw add-one (set_split out at b l) }

pub printed_none : (at : ℕ) (out : List ℕ) → Printed [] at out at out
unfolding put
printed_none at out =
    let z : at + 0 ≡ at = omega arith in
    record { after = sym z; bytes = rw z (sym (take-append-drop at out)) }

put_length : (a : List ℕ) {at : ℕ} {out : List ℕ} → Room a at out → length (put a at out) ≡ length out
unfolding put
put_length a {at} {out} h =
    let m = length-append (take at out) (a ++ drop (at + length a) out) in
    let k = length-append a (drop (at + length a) out) in
    let l : at ≤ length out = omega arith in
    let j : length (take at out) ≡ at = length-take-le at out l in
    let i = length-drop (at + length a) out in
    omega arith

-- the same of another name for the text
pub room_as : {s t : List ℕ} {at : ℕ} {out : List ℕ} → s ≡ t → Room t at out → Room s at out
room_as e h = rw e h

pub printed_as : {s t : List ℕ} {at n : ℕ} {out out₁ : List ℕ} → s ≡ t → Printed s at out n out₁ → Printed t at out n out₁
printed_as e h = rw e at h

module _ (a b : List ℕ) {at : ℕ} {out : List ℕ} (h : Room (a ++ b) at out) where
  pub room_first : Room a at out
  room_first = record { fits = omega (arith, length-append a b) }

  module _ {n : ℕ} {out₁ : List ℕ} (p : Printed a at out n out₁) where
    pub room_next : Room b n out₁
    room_next =
        let l : length out₁ ≡ length out = ap length p.bytes ∙ put_length a room_first in
        record { fits = omega (arith, length-append a b, p.after) }

    pub printed_both : {m : ℕ} {out₂ : List ℕ} → Printed b n out₁ m out₂ → Printed (a ++ b) at out m out₂
    unfolding put
    printed_both q =
        let la = length-append a b in
        let l : at ≤ length out = omega arith in
        let P = take at out ++ a in
        let D = drop (at + length a) out in
        let s : n ≡ length P = p.after ∙ sym (length-append (take at out) a ∙ ap (λ (k : ℕ). k + length a) (length-take-le at out l)) in
        let o : out₁ ≡ P ++ D = p.bytes ∙ sym (append_assoc (take at out) a D) in
        let t : take n out₁ ≡ P = ap (take n) o ∙ take_at P D n (sym s) in
        let z : at + length a + length b ≡ at + length (a ++ b) = omega arith in
        let d : drop (n + length b) out₁ ≡ drop (at + length (a ++ b)) out =
        rw (o, s) (drop-append-add P D (length b) ∙ drop-drop (length b) (at + length a) out ∙ ap (λ (k : ℕ). drop k out) z) in
        record {
          after = omega (arith, p.after, q.after);
          bytes = q.bytes ∙ rw (t, d) (simp append_assoc);
        }

-- a text of two parts, by its name
module _ (a b : List ℕ) {t : List ℕ} (e : a ++ b ≡ t) {at : ℕ} {out : List ℕ} (h : Room t at out) where
  pub first_room : Room a at out
  first_room = room_first a b (room_as e h)

  module _ {n : ℕ} {out₁ : List ℕ} (p : Printed a at out n out₁) where
    pub rest_room : Room b n out₁
    rest_room = room_next a b (room_as e h) p

    pub printed_parts : {m : ℕ} {out₂ : List ℕ} → Printed b n out₁ m out₂ → Printed t at out m out₂
    printed_parts q = printed_as e (printed_both a b (room_as e h) p q)

module _ (a b c : List ℕ) {at : ℕ} {out : List ℕ} (h : Room (a ++ (b ++ c)) at out) {n : ℕ} {out₁ : List ℕ} (p : Printed a at out n out₁) where
  pub second_room : Room b n out₁
  second_room = room_first b c (room_next a (b ++ c) h p)

  module _ {m : ℕ} {out₂ : List ℕ} (q : Printed b n out₁ m out₂) where
    pub third_room : Room c m out₂
    third_room = room_next b c (room_next a (b ++ c) h p) q

    pub three : {k : ℕ} {out₃ : List ℕ} → Printed c m out₂ k out₃ → Printed (a ++ (b ++ c)) at out k out₃
    three r = printed_both a (b ++ c) h p (printed_both b c (room_next a (b ++ c) h p) q r)

module _ (a b c d : List ℕ) {at : ℕ} {out : List ℕ} (h : Room (a ++ (b ++ (c ++ d))) at out) {n : ℕ} {out₁ : List ℕ} (p : Printed a at out n out₁)
    {m : ℕ} {out₂ : List ℕ} (q : Printed b n out₁ m out₂) where
  pub part_room : Room c m out₂
  part_room = room_first c d (third_room a b (c ++ d) h p q)

  module _ {k : ℕ} {out₃ : List ℕ} (r : Printed c m out₂ k out₃) where
    pub last_room : Room d k out₃
    last_room = room_next c d (third_room a b (c ++ d) h p q) r

    pub four : {j : ℕ} {out₄ : List ℕ} → Printed d k out₃ j out₄ → Printed (a ++ (b ++ (c ++ d))) at out j out₄
    four s = three a b (c ++ d) h p q (printed_both c d (third_room a b (c ++ d) h p q) r s)

-- for a caller: a text that was printed from the first byte on, and the bytes after it
module _ {text : List ℕ} {out : List ℕ} {n : ℕ} {out₁ : List ℕ} (p : Printed text 0 out n out₁) where
  pub printed_whole : out₁ ≡ text ++ drop n out
  unfolding put
  printed_whole = let e : n ≡ length text = p.after ∙ omega arith in p.bytes ∙ rw (e, zero-add)

  pub printed_text : take n out₁ ≡ text
  printed_text = rw printed_whole (take_at text (drop n out) n (sym (p.after ∙ omega arith)))

  -- it fits on its page
  pub printed_fits : n ≤ length out₁
  printed_fits = omega (arith, p.after, ap length printed_whole, length-append text (drop n out))
