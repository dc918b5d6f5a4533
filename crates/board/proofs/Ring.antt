-- The ring of 64 places: how many samples wait, the oldest taken, a newest put. Assumes nothing.
use Prim.Native.Nat.{ℕ, zero, suc, ◌+◌, ◌-◌, ◌%◌, ◌≤◌, ◌<◌}
use mathlib.Core.Path.{◌≡◌, refl, sym, ap, ◌∙◌, subst}
use mathlib.Core.List.{List, [], ◌∷◌, ◌++◌}
use mathlib.Core.Bool.{Bool, true, false, cond}
use native.Mathlib.Omega.{arith}
use native.Mathlib.Numerals.{add-one}
use native.Mathlib.Nat.{suc-mod}
use borrow.Author.Tests.{ltb-true, ltb-false, eqb-false, lt-ltb, le-ltb}
use lib.ListN.{length, get_or, set}
use lib.Seq.{get_or-set_same, get_or-set_other}
use lib.Dec.{ltb, eqb}
use Rattle.board.specs.Queue.{samples_from, count_of, waiting}
use Rattle.board.specs.declared.queue.Queue.{Queue}

samples_length : (places : List ℕ) (at n : ℕ) → length (samples_from places at n) ≡ n
unfolding samples_from
samples_length places at zero = refl
samples_length places at (suc n) = ap suc (samples_length places (suc at) n)

pub fill_is : (q : Queue) → length (waiting q) ≡ count_of q
unfolding waiting
fill_is q = samples_length q.places q.oldest (count_of q)

pub fill_below : (q : Queue) → q.count < 64 → q.count ≡ length (waiting q)
fill_below q h = sym (rw (lt-ltb q.count 64 h) at (fill_is q))

pub fill_above : (q : Queue) → 64 ≤ q.count → 64 ≡ length (waiting q)
fill_above q h = sym (rw (le-ltb q.count 64 h) at (fill_is q))

at_most : (b : Bool) (n : ℕ) → ltb n 64 ≡ b → cond b n 64 ≤ 64
at_most true n e = omega (arith, ltb-true n 64 e)
at_most false n e = omega arith

-- "a queue of 64 samples": of every record, well made or not
pub fill_most : (q : Queue) → length (waiting q) ≤ 64
fill_most q = rw (fill_is q) (at_most (ltb q.count 64) q.count refl)

-- of a queue that is not full
pub room : (q : Queue) → eqb (length (waiting q)) 64 ≡ false → length (waiting q) < 64
room q e = let d : length (waiting q) ≡ 64 → ⊥ = eqb-false (length (waiting q)) 64 e in omega (arith, fill_most q)

-- the place counts modulo 64
same_place : (places : List ℕ) (a b n : ℕ) → a % 64 ≡ b % 64 → samples_from places a n ≡ samples_from places b n
unfolding samples_from
same_place places a b zero e = refl
same_place places a b (suc n) e =
    let s : suc a % 64 ≡ suc b % 64 = suc-mod a 64 ∙ ap (λ (k : ℕ). suc k % 64) e ∙ sym (suc-mod b 64) in
    rw (e, same_place places (suc a) (suc b) n s)

-- the queue after its oldest sample was taken, fill samples having waited
taken_from : (places : List ℕ) (oldest fill : ℕ) → 0 < fill → samples_from places oldest fill ≡ get_or places (oldest % 64) 0 ∷ samples_from places ((oldest + 1) % 64) (fill - 1)
unfolding samples_from
taken_from places oldest zero h = let z : ◌≡◌ {A = ℕ} 0 1 = omega arith in cc
taken_from places oldest (suc n) h =
    let e : suc oldest % 64 ≡ (oldest + 1) % 64 % 64 = omega arith in
    let m : suc n - 1 ≡ n = omega arith in
    rw (m, same_place places (suc oldest) ((oldest + 1) % 64) n e)

waiting_by : (q : Queue) (n : ℕ) → n ≡ length (waiting q) → waiting q ≡ samples_from q.places q.oldest n
unfolding waiting
waiting_by q n e = ap (samples_from q.places q.oldest) (sym (e ∙ fill_is q))

count_few : (b : Bool) (n : ℕ) → ltb n 64 ≡ b → n ≤ 64 → cond b n 64 ≡ n
count_few true n e h = refl
count_few false n e h = omega (arith, ltb-false n 64 e)

waiting_few : (places : List ℕ) (oldest n : ℕ) → n ≤ 64 → waiting (record { places = places; oldest = oldest; count = n }) ≡ samples_from places oldest n
unfolding waiting
waiting_few places oldest n h = ap (samples_from places oldest) (count_few (ltb n 64) n refl h)

-- a sample put behind n others, which leave a place free
put_at : (places : List ℕ) (oldest n sample : ℕ) → n < 64 → length places ≡ 64
    → samples_from (set places ((oldest + n) % 64) sample) oldest (suc n) ≡ samples_from places oldest n ++ (sample ∷ [])
unfolding samples_from
put_at places oldest zero sample h l =
    let e : oldest + 0 ≡ oldest = omega arith in
    let b : oldest % 64 < length places = omega arith in
    rw (e, get_or-set_same places (oldest % 64) sample 0 b)
put_at places oldest (suc n) sample h l =
    let e : oldest + suc n ≡ suc oldest + n = omega arith in
    let d : oldest % 64 ≡ (suc oldest + n) % 64 → ⊥ = λ p. omega arith in
    let after = set places ((suc oldest + n) % 64) sample in
    subst (λ (k : ℕ). samples_from (set places (k % 64) sample) oldest (suc (suc n)) ≡ samples_from places oldest (suc n) ++ (sample ∷ [])) (sym e)
    (ap (λ (first : ℕ). first ∷ samples_from after (suc oldest) (suc n)) (get_or-set_other places ((suc oldest + n) % 64) (oldest % 64) sample 0 d)
    ∙ ap (λ (l : List ℕ). get_or places (oldest % 64) 0 ∷ l) (put_at places (suc oldest) n sample (omega arith) l))

module _ (q : Queue) (fill : ℕ) (is : fill ≡ length (waiting q)) where
  pub taken_is : (first second : ℕ) → first ≡ (q.oldest + 0) % 64 → second ≡ (q.oldest + 1) % 64 → 0 < fill
      → waiting q ≡ get_or q.places first 0 ∷ waiting (record { places = q.places; oldest = second; count = fill - 1 })
  taken_is first second e f h =
      let z : q.oldest + 0 ≡ q.oldest = omega arith in
      let few : fill - 1 ≤ 64 = omega (arith, fill_most q) in
      let others = waiting_few q.places ((q.oldest + 1) % 64) (fill - 1) few in
      rw (e, f, z) (waiting_by q fill is ∙ taken_from q.places q.oldest fill h ∙ ap (λ (l : List ℕ). get_or q.places (q.oldest % 64) 0 ∷ l) (sym others))

  pub put_is : (next sample : ℕ) → next ≡ (q.oldest + fill) % 64 → fill < 64 → length q.places ≡ 64
      → waiting (record { places = set q.places next sample; oldest = q.oldest; count = fill + 1 }) ≡ waiting q ++ (sample ∷ [])
  put_is next sample e h l =
      let n : fill + 1 ≤ 64 = omega arith in
      waiting_few (set q.places next sample) q.oldest (fill + 1) n
      ∙ rw (e, add-one) (put_at q.places q.oldest fill sample h l)
      ∙ ap (λ (w : List ℕ). w ++ (sample ∷ [])) (sym (waiting_by q fill is))
