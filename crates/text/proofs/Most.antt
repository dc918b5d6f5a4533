-- Use where a reply is to be long enough for every listing: `listing_most`. A listing is longest where all 2,048 frames are printed, each with 16 bytes at most, after a G line
-- of 40 bytes at most. Assumes nothing.
use Prim.Native.Nat.{ℕ, zero, suc, ◌+◌, ◌-◌, ◌^◌, ◌≤◌, ◌<◌}
use mathlib.Core.Path.{◌≡◌, refl, ap, ◌∙◌}
use mathlib.Core.List.{List, [], ◌∷◌, ◌++◌, map}
use mathlib.Core.Bool.{Bool, true, false, cond}
use native.Mathlib.Omega.{arith}
use borrow.Author.Tests.{le-ltb, ltb-false, leb-true}
use lib.Dec.{T, leb, ltb}
use lib.Ieee.{Float}
use lib.ListN.{length, drop}
use Rattle.rng.specs.SplitMix64.{state_after}
use Rattle.dsl.specs.declared.note.Decoded.{Decoded}
use Rattle.dsl.proofs.Cases.{by_words}
use Rattle.outcome.specs.Answer.{Result, accepted, unless, number_of}
use Rattle.outcome.specs.declared.answer.Refusal.{Refusal}
use Rattle.outcome.specs.declared.answer.Refusal.TheVariants.{Draws}
use Rattle.outcome.specs.Outcome.{Verdict}
use Rattle.std.specs.Prelude.{Ok, Err, None, Option, Some}
use Rattle.outcome.specs.First.{Test, ◌⇒◌, first_of, or_else, first_refusal}
use Rattle.outcome.proofs.First.{none_holds, or_fine}
use Rattle.score.specs.Score.{Score, note_count, notes_in, score_draws}
use Rattle.score.specs.Refusals.{call_tests, note_tests, untuned_tests, note_refusal, refusal, refusal_at}
use Rattle.score.specs.declared.seq.Seq.{Seq}
use Rattle.tally.specs.Tally.{Taken, all_taken, tallied, new_draw, tally}
use Rattle.tally.proofs.AllCalls.{taken_whole}
use Rattle.tally.proofs.Lengths.{taken_length}
use Rattle.text_listing.specs.Lines.{printed_r}
use Rattle.text_listing.proofs.Listings.{refusal_length, listing_length}
use Rattle.text_read.specs.Text.{seq_in, text_of}
use Rattle.text.specs.Reply.{too_short, reply_of, bytes_after, Replied}
use Rattle.text_reply.specs.Shown.{shown_at}
use Rattle.text_judge.specs.Call.{call_of}
use Rattle.text_judge.specs.Refusal.{text_refusal, unless_refused}
use Rattle.text_judge.proofs.Refused.{unrefused_read}
use Rattle.text.specs.Listing.{played, played_read, listing}

-- ---- no refusal of a score has a number of three digits
abbrev Small : Verdict → Type 0
Small v = (r : Refusal) → v ≡ Err r → number_of r ≤ 99

-- of a list of tests: computes to true at a written one
abbrev small : List Test → Bool
small [] = true
small (t ∷ ts) = cond (leb (number_of t.refusal) 99) (small ts) false

same_number : {x r : Refusal} → ◌≡◌ {A = Verdict} (Err x) (Err r) → number_of x ≤ 99 → number_of r ≤ 99
same_number {x} {r} e h = let z : x ≡ r = cc in rw z at h

small_or : (v w : Verdict) → Small v → Small w → Small (or_else v w)
small_or (Ok _) w a b = b
small_or (Err x) w a b = a

small_first : (ts : List Test) → T (small ts) → Small (first_of ts)
unfolding first_of
small_first [] h = λ r e. absurd (let z : ◌≡◌ {A = ℕ} 0 1 = cc in omega arith)
small_first (t ∷ ts) h = here t.holds (leb (number_of t.refusal) 99) refl h (small_first ts)
  where
    here : (b c : Bool) → leb (number_of t.refusal) 99 ≡ c → T (cond c (small ts) false) → (T (small ts) → Small (first_of ts)) → Small (cond b (Err t.refusal) (first_of ts))
    here true true q h rest = λ r e. same_number e (leb-true (number_of t.refusal) 99 q)
    here false true q h rest = rest h
    here b false q h rest = absurd h

small_all : (f : Decoded → Verdict) → ((e : Decoded) → Small (f e)) → (l : List Decoded) → Small (first_refusal (map f l))
unfolding first_refusal
small_all f each [] = λ r e. absurd (let z : ◌≡◌ {A = ℕ} 0 1 = cc in omega arith)
small_all f each (x ∷ xs) = small_or (f x) (first_refusal (map f xs)) (each x) (small_all f each xs)

module _ (s : Score) where
  small_note : (e : Decoded) → Small (note_refusal s e)
  unfolding note_refusal
  small_note = by_words (λ e. Small (note_refusal s e)) (λ m. small_first (note_tests s m) tt) (λ u. small_first (untuned_tests u) tt) (λ r q. same_number q (omega arith))

  score_small : (d : ℕ) → Small (refusal_at s d)
  unfolding refusal_at refusal
  score_small d =
      small_or _ _ (small_or (first_of (call_tests s)) _ (small_first (call_tests s) tt) (small_all (note_refusal s) small_note (notes_in s)))
      (small_first ((ltb (2 ^ 64 - 1) (d + score_draws s) ⇒ Draws) ∷ []) tt)

-- a number by tests is as small as each of its numbers
cond_leb : (t : Bool) (x y m : ℕ) → leb (cond t x y) m ≡ cond t (leb x m) (leb y m)
cond_leb true x y m = refl
cond_leb false x y m = refl

cond_same : (t b : Bool) → cond t b b ≡ b
cond_same true b = refl
cond_same false b = refl

text_most : (text : List ℕ) → text_refusal text ≤ 99
unfolding text_refusal
text_most text = leb-true (text_refusal text) 99 (simp (cond_leb, cond_same))

line_most : (n : ℕ) → n ≤ 99 → length (printed_r n) ≤ 32808
line_most n h = let l = refusal_length n (omega arith) in omega arith

-- ---- an accepted call: a draw that fits 64 bits
module _ (seed : ℕ) (s : Score) where
  draw_fits : (d : ℕ) → refusal_at s d ≡ Ok tt → (all_taken seed s d).x < 2 ^ 64
  unfolding refusal_at
  draw_fits d e =
      let over = none_holds _ (or_fine (refusal s) _ e).1 in
      let fits = ltb-false (2 ^ 64 - 1) (d + score_draws s) over.0 in
      let x : (all_taken seed s d).x ≡ d + score_draws s = ap (λ (t : Taken). t.x) (taken_whole seed d s e) in
      omega arith

-- ---- what is printed of a call: the number that refuses it, or D draws and its frames, after which the draw is x
abbrev shown_after : ℕ → ℕ → (ℕ → ℕ) → Result → List ℕ
shown_after d x state r = shown_at (state (new_draw r d x)) (new_draw r d x) r

shown_most : (v : Verdict) (D d x : ℕ) (frames : List Float) (state : ℕ → ℕ) → Small v → (v ≡ Ok tt → x < 2 ^ 64) → length frames ≤ 2048
    → length (shown_after d x state (unless v (accepted D frames))) ≤ 32808
shown_most (Ok _) D d x frames state few f l = let k = listing_length (state x) x frames (f refl) l in omega arith
shown_most (Err r) D d x frames state few f l = line_most (number_of r) (few r refl)

played_most : (seq : Seq) (notes : List ℕ) (n seed draw : ℕ) → n ≤ 2048 → length (played seq notes n seed draw) ≤ 32808
unfolding played tally tallied
played_most seq notes n seed draw h =
    let s = call_of seq notes n in
    let frames = taken_length seed s draw (note_count s) in
    shown_most (refusal_at s draw) (score_draws s) draw _ _ (state_after seed) (score_small s draw) (draw_fits seed s draw) (omega arith)

-- ---- the listing of any text
listed_most : (n : ℕ) (l : List ℕ) → n ≤ 99 → (n ≡ 0 → length l ≤ 32808) → length (unless_refused printed_r n l) ≤ 32808
listed_most zero l h f = f refl
listed_most (suc n) l h f = line_most (suc n) h

-- No listing is longer: with a reply of 32,808 bytes a text call never answers that it is short.
pub listing_most : (text : List ℕ) → length (listing text) ≤ 32808
unfolding listing
listing_most text =
    listed_most (text_refusal text) (played_read (text_of text)) (text_most text)
    (λ e.
    let u = unrefused_read text e in
    let t = u.said in
    rw u.is (played_most (seq_in t) t.notes t.numbers.n t.seed t.draw u.frames))

-- a reply of 32,808 bytes or more is never short: it holds the listing, whatever the text
module _ (text reply₀ : List ℕ) (room : 32808 ≤ length reply₀) where
  never_short : too_short text reply₀ ≡ false
  never_short = let l = listing_most text in le-ltb (length reply₀) (length (listing text)) (omega arith)

  pub always_listed : reply_of text reply₀ ≡ Some (length (listing text))
  unfolding reply_of
  always_listed = rw never_short

  always_bytes : bytes_after text reply₀ ≡ listing text ++ drop (length (listing text)) reply₀
  unfolding bytes_after
  always_bytes = rw never_short

module _ {text reply₀ reply : List ℕ} {said : Option ℕ} (room : 32808 ≤ length reply₀) (h : Replied text reply₀ said reply) where
  pub reply_whole : {n : ℕ} → said ≡ Some n → (n ≡ length (listing text)) × (reply ≡ listing text ++ drop n reply₀)
  reply_whole {n} told =
      let is = always_listed text reply₀ room in
      let answer = h.answer in
      let size : n ≡ length (listing text) = cc in
      (size, rw size (h.bytes ∙ always_bytes text reply₀ room))

  pub reply_not_short : said ≡ None → ⊥
  reply_not_short told =
      let is = always_listed text reply₀ room in
      let answer = h.answer in
      let z : ◌≡◌ {A = ℕ} 0 1 = cc in
      omega arith
