-- Use for the listing: how long its lines are at most (`opening_length`, `frame_length`, `refusal_length`, `listing_length`) and exactly (`refusal_exact`, `listing_exact`,
-- `lines_exact`), and the loop over the frames, whose invariant is `Listed`.
-- Assumes nothing.
use Prim.Native.Nat.{ℕ, zero, suc, ◌+◌, ◌*◌, ◌-◌, ◌^◌, ◌≤◌, ◌<◌}
use mathlib.Core.Path.{◌≡◌, refl, ap, ◌∙◌}
use mathlib.Core.Logic.{◌⊎◌, inl, inr}
use mathlib.Core.List.{List, ◌++◌}
use native.Mathlib.Nat.{eq-or-lt_of_le}
use native.Mathlib.Omega.{arith}
use native.Mathlib.Numerals.{add-one}
use lib.ListN.{length, length-append}
use lib.Ieee.{Float}
use Rattle.text_listing.specs.Digits.{hex_text, decimal_text}
use Rattle.text_listing.specs.Lines.{line_end, tabbed_text, printed_g, printed_f, printed_r, pattern_lines, frame_lines, listing_of, LinesLength, ListingLength}
use Rattle.text_listing.specs.Printed.{Room, Printed, FramesRoom}
use Rattle.text_listing.proofs.Put.{printed_none, printed_as, room_next, printed_both}
use Rattle.text_listing.proofs.Numbers.{digits_length, decimal_length, index_digits}

pub opening_length : (state draw : ℕ) → draw < 2 ^ 64 → length (printed_g state draw) ≤ 40
opening_length state draw h =
    let a = length-append (hex_text 16 state) (tabbed_text (decimal_text draw) ++ line_end) in
    let b = length-append (decimal_text draw) line_end in
    let x = digits_length 16 16 state in
    let d = decimal_length 19 draw (omega arith) in
    omega arith

pub frame_length : (index bits : ℕ) → index < 2048 → length (printed_f index bits) ≤ 16
frame_length index bits h =
    let a = length-append (decimal_text index) (tabbed_text (hex_text 8 bits) ++ line_end) in
    let b = length-append (hex_text 8 bits) line_end in
    let x = digits_length 16 8 bits in
    let d = decimal_length 3 index (omega arith) in
    omega arith

pub refusal_length : (number : ℕ) → number < 2 ^ 32 → length (printed_r number) ≤ 13
refusal_length number h =
    let a = length-append (decimal_text number) line_end in
    let d = decimal_length 9 number (omega arith) in
    omega arith

pub refusal_room : (number : ℕ) {out : List ℕ} → number < 2 ^ 32 → 13 ≤ length out → Room (printed_r number) 0 out
refusal_room number h l = let m = refusal_length number h in record { fits = omega arith }

lines_length : (n : ℕ) (bits : ℕ → ℕ) → n ≤ 2048 → length (pattern_lines n bits) ≤ 16 * n
unfolding pattern_lines
lines_length zero bits h = omega arith
lines_length (suc n) bits h =
    let a = length-append (pattern_lines n bits) (printed_f n (bits n)) in
    let l = lines_length n bits (omega arith) in
    let m = frame_length n (bits n) (omega arith) in
    omega arith

pub listing_length : (state draw : ℕ) (frames : List Float) → draw < 2 ^ 64 → length frames ≤ 2048 → length (listing_of state draw frames) ≤ 40 + 16 * length frames
listing_length state draw frames h l =
    let a = length-append (printed_g state draw) (frame_lines (length frames) frames) in
    let b = opening_length state draw h in
    let c : length (frame_lines (length frames) frames) ≤ 16 * length frames = lines_length (length frames) _ l in
    omega arith

-- room for the lines by the bytes that they have at most
pub lines_room : (bits : ℕ → ℕ) {n start : ℕ} {out : List ℕ} → FramesRoom n start (length out) → Room (pattern_lines n bits) start out
lines_room bits {n} r = let l = lines_length n bits r.frames in record { fits = omega (arith, r.bytes) }

-- ---- how long they are exactly
frame_exact : (index bits : ℕ) → length (printed_f index bits) ≡ 12 + length (decimal_text index)
frame_exact index bits =
    let a = length-append (decimal_text index) (tabbed_text (hex_text 8 bits) ++ line_end) in
    let b = length-append (hex_text 8 bits) line_end in
    let x = digits_length 16 8 bits in
    omega arith

pub refusal_exact : (number : ℕ) → 3 + length (decimal_text number) ≡ length (printed_r number)
refusal_exact number = let a = length-append (decimal_text number) line_end in omega arith

opening_exact : (state draw : ℕ) → length (printed_g state draw) ≡ 20 + length (decimal_text draw)
opening_exact state draw =
    let a = length-append (hex_text 16 state) (tabbed_text (decimal_text draw) ++ line_end) in
    let b = length-append (decimal_text draw) line_end in
    let x = digits_length 16 16 state in
    omega arith

pub lines_most : {n r : ℕ} → LinesLength n r → n ≤ 2048 → r ≤ 32768
lines_most {n} l h =
    let e = l.is (λ k. 0) in
    let m = lines_length n (λ k. 0) h in
    omega arith

pub listing_exact : (draw : ℕ) {n lines : ℕ} → LinesLength n lines → ListingLength draw n (20 + length (decimal_text draw) + lines)
listing_exact draw {n} {lines} l = record { is = λ state frames e. whole state frames e }
  where
    whole : (state : ℕ) (frames : List Float) → length frames ≡ n → 20 + length (decimal_text draw) + lines ≡ length (listing_of state draw frames)
    whole state frames e =
        let a = length-append (printed_g state draw) (frame_lines (length frames) frames) in
        let b = opening_exact state draw in
        let c : lines ≡ length (frame_lines (length frames) frames) = rw e (l.is _) in
        omega arith

-- an index below 2,048 has a digit, and one more from 10, from 100 and from 1,000 on
each_line : (n : ℕ) (bits : ℕ → ℕ) → n ≤ 2048 → 13 * n + (n - 10) + (n - 100) + (n - 1000) ≡ length (pattern_lines n bits)
unfolding pattern_lines
each_line zero bits h = refl
each_line (suc n) bits h =
    let a = length-append (pattern_lines n bits) (printed_f n (bits n)) in
    let l = each_line n bits (omega arith) in
    let f = frame_exact n (bits n) in
    let d = index_digits n (omega arith) in
    omega arith

pub lines_exact : (n : ℕ) → n ≤ 2048 → LinesLength n (13 * n + (n - 10) + (n - 100) + (n - 1000))
lines_exact n h = record { is = λ bits. each_line n bits h }

-- the lines up to one are no longer than all
lines_within : (i n : ℕ) (bits : ℕ → ℕ) → i ≤ n → length (pattern_lines i bits) ≤ length (pattern_lines n bits)
unfolding pattern_lines
lines_within i zero bits h = let z : i ≡ 0 = omega arith in rw z (omega arith)
lines_within i (suc n) bits h = by (eq-or-lt_of_le h) (lines_within i n bits)
  where
    by : (i ≡ suc n) ⊎ (i < suc n) → (i ≤ n → length (pattern_lines i bits) ≤ length (pattern_lines n bits)) → length (pattern_lines i bits) ≤ length (pattern_lines n bits ++ printed_f n (bits n))
    by (inl e) rest = rw e (omega arith)
    by (inr l) rest = let a = length-append (pattern_lines n bits) (printed_f n (bits n)) in let m = rest (omega arith) in omega arith

-- Before line i of n.
pub record Listed (bits : ℕ → ℕ) (n start : ℕ) (out₀ : List ℕ) (i at : ℕ) (out : List ℕ) : Type 0 where
  pub within : i ≤ n
  pub room : Room (pattern_lines n bits) start out₀
  pub same : length out ≡ length out₀
  pub is : Printed (pattern_lines i bits) start out₀ at out

pub listed_none : {bits : ℕ → ℕ} {n start : ℕ} {out₀ : List ℕ} → Room (pattern_lines n bits) start out₀ → Listed bits n start out₀ 0 start out₀
unfolding pattern_lines
listed_none {bits} {n} {start} {out₀} r = record { within = omega arith; room = r; same = refl; is = printed_none start out₀ }

module _ {bits : ℕ → ℕ} {n start : ℕ} {out₀ : List ℕ} {i at : ℕ} {out : List ℕ} (h : Listed bits n start out₀ i at out) where
  module _ (lt : i < n) (b : ℕ) where
    both_room : Room (pattern_lines i bits ++ printed_f i b) start out₀
    unfolding pattern_lines
    both_room =
        let a = length-append (pattern_lines i bits) (printed_f i b) in
        let a₁ = length-append (pattern_lines i bits) (printed_f i (bits i)) in
        let m : length (pattern_lines (suc i) bits) ≤ length (pattern_lines n bits) = lines_within (suc i) n bits (omega arith) in
        record { fits = omega (arith, h.room.fits, frame_exact i b, frame_exact i (bits i)) }

    pub line_room : Room (printed_f i b) at out
    line_room = room_next (pattern_lines i bits) (printed_f i b) both_room h.is

    pub listed_more : {next : ℕ} {out₁ : List ℕ} → b ≡ bits i → length out₁ ≡ length out → Printed (printed_f i b) at out next out₁ → Listed bits n start out₀ (i + 1) next out₁
    unfolding pattern_lines
    listed_more e s p =
        record {
          within = omega arith;
          room = h.room;
          same = s ∙ h.same;
          is = rw add-one (printed_as (ap (λ (x : ℕ). pattern_lines i bits ++ printed_f i x) e) (printed_both (pattern_lines i bits) (printed_f i b) both_room h.is p));
        }

  pub listed_all : n ≤ i → Printed (pattern_lines n bits) start out₀ at out
  listed_all l = let z : i ≡ n = omega (arith, h.within) in printed_as (ap (λ (m : ℕ). pattern_lines m bits) z) h.is
