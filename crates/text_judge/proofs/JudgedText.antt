-- Use in a caller of the reader that tests 16, 15 and 16 in their order, with `refusal_long` of Refused for the first: by which number the text is refused. Assumes nothing.
use Prim.Native.Nat.{ℕ, ◌≤◌, ◌<◌}
use mathlib.Core.Path.{◌≡◌, refl, sym, ap}
use mathlib.Core.List.{List}
use mathlib.Core.Bool.{Bool, true, false, cond}
use borrow.Author.Tests.{lt-ltb, le-ltb}
use lib.ListN.{length}
use Rattle.laws.proofs.If.{if_true, if_false}
use Rattle.text_digits.specs.Read.{Read, got, broken}
use Rattle.text_read.specs.Notes.{count_of}
use Rattle.text_read.specs.Text.{Text, text_of}
use Rattle.text_read.specs.declared.text.TextScore.{TextScore}
use Rattle.text_read.proofs.Said.{Said}
use Rattle.text_judge.specs.Refusal.{form_broken, too_large, text_refusal}

module _ (text : List ℕ) where
  module _ (few : length text ≤ 65536) where
    read_as : (n : ℕ) (x : Read Text) → text_of text ≡ x → n ≡ cond (form_broken x) 15 (cond (too_large x) 16 0) → n ≡ text_refusal text
    unfolding text_refusal
    read_as n x is e = if_false _ (le-ltb _ _ few) (rw is e)

    pub judged_broken : text_of text ≡ broken → 15 ≡ text_refusal text
    judged_broken e = read_as 15 broken e refl

    module _ {x : TextScore} {words₀ words : List ℕ} (said : Said x (text_of text) words₀ words) where
      abbrev t : Text
      t = said.text

      long : x.numbers.n ≡ t.numbers.n
      long = ap (λ (y : TextScore). y.numbers.n) said.score

      many : x.count ≡ count_of t.notes
      many = ap (λ (y : TextScore). y.count) said.score

      -- the text is large where `b` is
      sized_as : (b : Bool) → too_large (got t said.rest) ≡ b → cond b 16 0 ≡ text_refusal text
      sized_as b e = read_as (cond b 16 0) (got t said.rest) said.is (sym (ap (λ (z : Bool). cond z 16 0) e))

      pub judged_frames : 2048 < x.numbers.n → 16 ≡ text_refusal text
      judged_frames h = sized_as true (sym (if_true _ (lt-ltb _ _ (rw long at h)) refl))

      module _ (frames : x.numbers.n ≤ 2048) where
        pub judged_notes : 256 < x.count → 16 ≡ text_refusal text
        judged_notes h = sized_as true (sym (if_false _ (le-ltb _ _ (rw long at frames)) (sym (lt-ltb _ _ (rw many at h)))))

        pub judged_none : x.count ≤ 256 → 0 ≡ text_refusal text
        judged_none h = sized_as false (sym (if_false _ (le-ltb _ _ (rw long at frames)) (sym (le-ltb _ _ (rw many at h)))))
