-- Use for the two loops over the notes, the one that judges and the one that stores, whose invariants are `Gathered` and `Storing`. Assumes nothing.
use Prim.Native.Nat.{ℕ, ◌+◌, ◌-◌, ◌*◌, ◌/◌, ◌≤◌, ◌<◌}
use mathlib.Core.Path.{◌≡◌, refl, sym, ap, ◌∙◌}
use mathlib.Core.List.{List, [], ◌∷◌, ◌++◌, append-nil, append_assoc}
use native.Mathlib.Omega.{arith}
use borrow.Author.Tests.{lt-ltb, le-ltb}
use lib.ListN.{length, take, drop, get_or, length-append, drop_of_length-le}
use borrow.Rule.Slice.PartMut.{put_mid}
use lib.Seq.{take_at, drop-append-add, drop-drop}
use Rattle.std.specs.Prelude.{Option, Some, None}
use Rattle.text_digits.specs.Read.{Read, got, broken}
use Rattle.text_digits.specs.Answers.{value_in}
use Rattle.laws.proofs.If.{if_true, if_false}
use Rattle.text_lines.specs.Line.{before, stored_in, line}
use Rattle.text_read.specs.Notes.{line_n, notes_of, either_form, words_of, form_n, form_short, short_gain, count_of, counted, words_after, Noted, Fitting}
use Rattle.text_digits.proofs.Reading.{head}
use Rattle.text_lines.proofs.Forms.{broken_got, got_value}
use Rattle.text_lines.proofs.Reading.{before_none, before_before, before_broken}
use Rattle.text_read.proofs.Shorter.{notes_none, notes_line}
use Rattle.text_read.proofs.Fives.{note_five, notes_five}

-- a line that was read into an array of as many values
whole : (l : List ℕ) → words_of l (get_or l 3 0) ≡ words_of (take 4 l) (get_or (take 4 l) 3 0)
whole [] = refl
whole (a ∷ []) = refl
whole (a ∷ b ∷ []) = refl
whole (a ∷ b ∷ c ∷ []) = refl
whole (a ∷ b ∷ c ∷ d ∷ l) = refl

short : (l : List ℕ) → words_of l short_gain ≡ words_of (take 3 l) short_gain
short [] = refl
short (a ∷ []) = refl
short (a ∷ b ∷ []) = refl
short (a ∷ b ∷ c ∷ l) = refl

module _ (l x : List ℕ) {rest : List ℕ} where
  pub note_whole : got (take 4 l) rest ≡ line 78 form_n x → got (words_of l (get_or l 3 0)) rest ≡ line_n x
  unfolding line_n either_form
  note_whole e = rw (← e, whole l)

  pub note_short : broken ≡ line 78 form_n x → got (take 3 l) rest ≡ line 78 form_short x → got (words_of l short_gain) rest ≡ line_n x
  unfolding line_n either_form
  note_short d e = rw (← d, ← e, short l)

pub note_none : (x : List ℕ) → broken ≡ line 78 form_n x → broken ≡ line 78 form_short x → broken ≡ line_n x
unfolding line_n either_form
note_none x d e = rw (← d, ← e)

-- the words of a note, copied to their place
pub stored : (l : List ℕ) (i : ℕ) {v w : List ℕ} → w ≡ v → put_mid i (i + 5 - i) l w ≡ take i l ++ (v ++ drop (i + 5) l)
stored l i e = let z : i + (i + 5 - i) ≡ i + 5 = omega arith in rw (e, drop-drop (i + 5 - i) i l, z)

-- Before line n, at the place `at`: the words of the lines so far, and that the rest is read on from here. Each line is a byte at least, so that n stays below the number of bytes.
pub record Gathered (s : List ℕ) (start at n : ℕ) : Type 0 where
  pub ws : List ℕ
  pub ahead : before ws (notes_of (drop at s)) ≡ notes_of (drop start s)
  pub few : n ≤ at
  pub five : length ws ≡ n * 5

pub gathered_none : {s : List ℕ} {start : ℕ} → Gathered s start start 0
gathered_none {s} {start} =
    record {
      ws = [];
      ahead = before_none (notes_of (drop start s));
      few = omega arith;
      five = refl;
    }

module _ {s : List ℕ} {start at n : ℕ} (g : Gathered s start at n) where
  pub gathered_all : length s ≤ at → got g.ws [] ≡ notes_of (drop start s)
  unfolding before
  gathered_all h = rw (drop_of_length-le s h, notes_none, append-nil) at g.ahead

  pub gathered_count : length s ≤ at → Some n ≡ counted (notes_of (drop start s))
  gathered_count h = let z : n ≡ length g.ws / 5 = omega (arith, g.five) in rw (← (gathered_all h)) (ap Some z)

  module _ {r : Option (List ℕ × ℕ)} (lt : at < length s) (e : value_in s r ≡ line_n (drop at s)) where
    pub gathered_bad : r ≡ None → broken ≡ notes_of (drop start s)
    gathered_bad told =
        let d : broken ≡ line_n (get_or s at 0 ∷ drop (at + 1) s) = rw (told, head s at lt) at e in
        before_broken g.ws ∙ rw (head s at lt, notes_line, ← d) at g.ahead

    module _ {v : List ℕ} {next : ℕ} (told : r ≡ Some (v, next)) (later : at < next) where
      pub gathered_more : Gathered s start next (n + 1)
      gathered_more =
          let d : got v (drop next s) ≡ line_n (get_or s at 0 ∷ drop (at + 1) s) = rw (told, head s at lt) at e in
          record {
            ws = g.ws ++ v;
            ahead = before_before g.ws v (notes_of (drop next s)) ∙ (rw (head s at lt, notes_line, ← d) at g.ahead);
            few = omega (arith, g.few);
            five = length-append g.ws v ∙ omega (arith, g.five, note_five _ (sym d));
          }

-- The same while words are stored that fit.
pub record Storing (s : List ℕ) (start : ℕ) (words₀ words : List ℕ) (at n : ℕ) : Type 0 where
  pub gathered : Gathered s start at n
  pub fits : Fitting (notes_of (drop start s)) words₀
  pub same : length words ≡ length words₀
  pub held : words ≡ stored_in gathered.ws words₀

pub storing_none : {s : List ℕ} {start : ℕ} {words : List ℕ} → Fitting (notes_of (drop start s)) words → Storing s start words words start 0
unfolding gathered_none
storing_none h = record { gathered = gathered_none; fits = h; same = refl; held = refl }

-- what was read is no longer than all that is read
before_most : (vs : List ℕ) (x : Read (List ℕ)) {ws r : List ℕ} → before vs x ≡ got ws r → length vs ≤ length ws
unfolding before
before_most vs (got us q) {ws} {r} e = let z : vs ++ us ≡ ws = cc in omega (arith, length-append vs us, ap length z)
before_most vs broken e = broken_got e

module _ {s : List ℕ} {start : ℕ} {words₀ words : List ℕ} {at n : ℕ} (g : Storing s start words₀ words at n) where
  pub storing_all : length s ≤ at → words ≡ words_after (notes_of (drop start s)) words₀
  storing_all h =
      let all = gathered_all g.gathered h in
      let w = g.gathered.ws in
      let z : w ≡ g.fits.ws = got_value (all ∙ g.fits.is) in
      let l : length w ≤ length words₀ = rw z g.fits.room in
      rw (← all) (if_false words₀ (le-ltb (length words₀) (length w) l) g.held)

  module _ {r : Option (List ℕ × ℕ)} (lt : at < length s) (e : value_in s r ≡ line_n (drop at s)) where
    -- lines that were judged do not break
    pub storing_bad : {P : Type 0} → r ≡ None → P
    storing_bad told = broken_got (gathered_bad g.gathered lt e told ∙ g.fits.is)

    module _ {v : List ℕ} {next : ℕ} (told : r ≡ Some (v, next)) (later : at < next) where
      pub storing_room : n * 5 + 5 ≤ length words
      storing_room =
          let more = gathered_more g.gathered lt e told later in
          let most = before_most more.ws (notes_of (drop next s)) (more.ahead ∙ g.fits.is) in
          omega (arith, more.five, g.fits.room, g.same)

      pub storing_more : {words₁ : List ℕ} → length words₁ ≡ length words
          → words₁ ≡ take (n * 5) words ++ (v ++ drop (n * 5 + 5) words) → Storing s start words₀ words₁ next (n + 1)
      unfolding gathered_more
      storing_more {words₁} m f =
          let o5 : length v ≡ 5 = note_five _ (sym (rw told at e)) in
          let w = g.gathered.ws in
          let five : length w ≡ n * 5 = g.gathered.five in
          let l : length (w ++ v) ≡ n * 5 + 5 = length-append w v ∙ omega arith in
          let o = g.held in
          let t : take (n * 5) words ≡ w = rw o (take_at w (drop (length w) words₀) (n * 5) five) in
          let z : n * 5 + 5 ≡ length w + 5 = omega arith in
          let u : drop (n * 5 + 5) words ≡ drop (length (w ++ v)) words₀ =
          rw (o, l, z) (drop-append-add w (drop (length w) words₀) 5 ∙ drop-drop 5 (length w) words₀) in
          record {
            gathered = gathered_more g.gathered lt e told later;
            fits = g.fits;
            same = m ∙ g.same;
            held = f ∙ rw (t, u) (sym (append_assoc w v (drop (length (w ++ v)) words₀)));
          }

-- ---- the reader of notes: whether they are of the form and fit is known before any is stored
told_lines : (x : Read (List ℕ)) {n : ℕ} (words : List ℕ) → Some n ≡ counted x → ((ws r : List ℕ) → x ≡ got ws r → length ws ≡ count_of ws * 5) → n ≤ length words / 5 → Fitting x words
told_lines (got ws r) {n} words e five h =
    let z : n ≡ count_of ws = cc in
    record { ws = ws; rest = r; is = refl; room = omega (arith, five ws r refl) }
told_lines broken {n} words e five h = let z : ◌≡◌ {A = ℕ} 0 1 = cc in absurd (omega arith)

told_many : (x : Read (List ℕ)) {n : ℕ} (words : List ℕ) → Some n ≡ counted x → ((ws r : List ℕ) → x ≡ got ws r → length ws ≡ count_of ws * 5) → length words / 5 < n → words ≡ words_after x words
told_many (got ws r) {n} words e five h =
    let z : n ≡ count_of ws = cc in
    if_true (stored_in ws words) (lt-ltb (length words) (length ws) (omega (arith, five ws r refl))) refl
told_many broken {n} words e five h = refl

told_broken : (x : Read (List ℕ)) (words : List ℕ) → None ≡ counted x → words ≡ words_after x words
told_broken (got ws r) words e = let z : ◌≡◌ {A = ℕ} 0 1 = cc in absurd (omega arith)
told_broken broken words e = refl

module _ (s : List ℕ) {r : Option ℕ} (words : List ℕ) (is : r ≡ counted (notes_of s)) where
  pub noted_broken : r ≡ None → Noted (notes_of s) words None words
  noted_broken told = let e = rw told at is in record { count = e; stored = told_broken (notes_of s) words e }

  module _ {n : ℕ} (told : r ≡ Some n) where
    lines : Some n ≡ counted (notes_of s)
    lines = rw told at is

    pub noted_many : length words / 5 < n → Noted (notes_of s) words (Some n) words
    noted_many h = record { count = lines; stored = told_many (notes_of s) words lines (λ ws r e. notes_five s e) h }

    pub noted_fitting : n ≤ length words / 5 → Fitting (notes_of s) words
    noted_fitting h = told_lines (notes_of s) words lines (λ ws r e. notes_five s e) h

    pub noted_stored : {words₁ : List ℕ} → words₁ ≡ words_after (notes_of s) words → Noted (notes_of s) words (Some n) words₁
    noted_stored e = record { count = lines; stored = e }
