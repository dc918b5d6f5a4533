-- Use for the loop over the fields of a line: what was read stands before what is read on from here. Assumes nothing.
use Prim.Native.Nat.{ℕ, ◌+◌, ◌-◌, ◌≤◌, ◌<◌}
use mathlib.Core.Path.{◌≡◌, refl, sym, ap, ◌∙◌}
use mathlib.Core.List.{List, [], ◌∷◌, ◌++◌, append-nil, append_assoc}
use native.Mathlib.Omega.{arith}
use native.Mathlib.Numerals.{add-one}
use lib.ListN.{length, take, drop, set, get_or, length-set, drop_of_length-le, take-append-drop}
use lib.Seq.{take-suc-set, take_all, drop-set-lt, drop-drop, length-take-le}
use Rattle.std.specs.Prelude.{Option, Some, None}
use Rattle.text_digits.specs.Read.{Read, got, broken, after}
use Rattle.text_digits.specs.Answers.{place_in, value_in}
use Rattle.text_lines.specs.Line.{field, fields, before, leading, stored_in, line, form_s, form_e, numbers_of, env_of_bits, line_s, line_e}
use Rattle.text_digits.proofs.Reading.{head}

pub before_none : (r : Read (List ℕ)) → before [] r ≡ r
unfolding before
before_none (got vs s) = refl
before_none broken = refl

pub before_broken : (vs : List ℕ) → broken ≡ before vs broken
unfolding before
before_broken vs = refl

pub before_before : (us vs : List ℕ) (r : Read (List ℕ)) → before (us ++ vs) r ≡ before us (before vs r)
unfolding before
before_before us vs (got ws s) = ap (λ (l : List ℕ). got l s) (append_assoc us vs ws)
before_before us vs broken = refl

module _ (vs kinds s : List ℕ) (i at : ℕ) {r : Option (ℕ × ℕ)} where
  pub fields_bad : i < length kinds → r ≡ None → value_in s r ≡ field (get_or kinds i 0) (drop at s) → broken ≡ before vs (fields (drop i kinds) (drop at s))
  unfolding fields
  fields_bad h told e = rw (head kinds i h, ← (rw told at e)) (before_broken vs)

module _ (vs kinds s : List ℕ) (i at : ℕ) {v next : ℕ} {r : Option (ℕ × ℕ)} where
  pub fields_more : i < length kinds → i < length vs → r ≡ Some (v, next) → value_in s r ≡ field (get_or kinds i 0) (drop at s)
      → before (take (i + 1) (set vs i v)) (fields (drop (i + 1) kinds) (drop next s)) ≡ before (take i vs) (fields (drop i kinds) (drop at s))
  unfolding fields
  fields_more h l told e =
      let one : take (i + 1) (set vs i v) ≡ take i vs ++ (v ∷ []) = rw add-one (take-suc-set vs i v l) in
      rw (one, head kinds i h, ← (rw told at e)) (before_before (take i vs) (v ∷ []) (fields (drop (i + 1) kinds) (drop next s)))

module _ (vs kinds s : List ℕ) {i : ℕ} where
  pub fields_all : i ≤ length kinds → length kinds ≤ i → got (take (length kinds) vs) s ≡ before (take i vs) (fields (drop i kinds) s)
  unfolding fields before
  fields_all l h =
      let z : i ≡ length kinds = omega arith in
      rw (drop_of_length-le kinds h, append-nil, z)

-- Before field i: the values so far are those that lead, and after them the slice holds what it held.
pub record Led (kinds s : List ℕ) (start : ℕ) (values₀ : List ℕ) (i at : ℕ) (values : List ℕ) : Type 0 where
  pub within : i ≤ length values
  pub ahead : leading kinds (drop start s) ≡ take i values ++ leading (drop i kinds) (drop at s)
  pub behind : drop i values ≡ drop i values₀

pub led_none : {kinds s : List ℕ} {start : ℕ} {values : List ℕ} → Led kinds s start values 0 start values
led_none = record { within = omega arith; ahead = refl; behind = refl }

module _ {kinds s : List ℕ} {start : ℕ} {values₀ : List ℕ} {i at : ℕ} {values : List ℕ} (h : Led kinds s start values₀ i at values) where
  -- no more is stored
  led_end : [] ≡ leading (drop i kinds) (drop at s) → values ≡ stored_in (leading kinds (drop start s)) values₀
  led_end none =
      let all : leading kinds (drop start s) ≡ take i values = h.ahead ∙ rw (← none) (append-nil (take i values)) in
      let l : length (take i values) ≡ i = length-take-le i values h.within in
      rw (all, l, ← h.behind) (sym (take-append-drop i values))

  pub led_all : length kinds ≤ i → values ≡ stored_in (leading kinds (drop start s)) values₀
  unfolding leading
  led_all l = led_end (rw (drop_of_length-le kinds l))

  module _ (lt : i < length kinds) {r : Option (ℕ × ℕ)} (e : value_in s r ≡ field (get_or kinds i 0) (drop at s)) where
    pub led_bad : r ≡ None → values ≡ stored_in (leading kinds (drop start s)) values₀
    unfolding leading
    led_bad told = led_end (rw (head kinds i lt, ← (rw told at e)))

    pub led_more : {v next : ℕ} → i < length values → r ≡ Some (v, next) → Led kinds s start values₀ (i + 1) next (set values i v)
    unfolding leading
    led_more {v} {next} l told =
        let one : take (i + 1) (set values i v) ≡ take i values ++ (v ∷ []) = rw add-one (take-suc-set values i v l) in
        let rest = leading (drop (i + 1) kinds) (drop next s) in
        record {
          within = rw length-set (omega arith);
          ahead = h.ahead ∙ rw (one, head kinds i lt, ← (rw told at e)) (sym (append_assoc (take i values) (v ∷ []) rest));
          behind = drop-set-lt (i + 1) values i v (omega arith) ∙ sym (drop-drop 1 i values) ∙ ap (drop 1) h.behind ∙ drop-drop 1 i values₀;
        }

-- the newline's place is the line's, whatever the line's value
pub newline_placed : {A B : Type 0} (s : List ℕ) (b : A) (v : B) {x : Read A} (r : Option ℕ) → place_in s b r ≡ x → place_in s v r ≡ after x (λ _ next. got v next)
newline_placed s b v (Some next) e = rw (← e)
newline_placed s b v None e = rw (← e)

-- a line whose values fill a slice
module _ (l x : List ℕ) {rest : List ℕ} where
  pub numbers_read : length l ≡ 6 → got (take 6 l) rest ≡ line 83 form_s x → got (numbers_of l) rest ≡ line_s x
  unfolding line_s
  numbers_read h e = let z : length l ≤ 6 = omega arith in rw (← (rw (take_all 6 l z) at e))

  pub env_read : length l ≡ 5 → got (take 5 l) rest ≡ line 69 form_e x → got (env_of_bits l) rest ≡ line_e x
  unfolding line_e
  env_read h e = let z : length l ≤ 5 = omega arith in rw (← (rw (take_all 5 l z) at e))
